-- The record after an assignment: its fields, and how long `$0` is.
use Rattle.std.proofs.Common.{◌≡◌, ◌≢◌, ℕ, ℤ, pos, ◌+◌, ◌-◌, ◌*◌, ◌^◌, ◌≤◌, List, length, take, replicate, slice_set, Ok, refl, sym, ap, subst, ◌∙◌, arith}
use Rattle.std.specs.List.{sum_by}
use Rattle.std.proofs.lemmas.List.{length-append, length-replicate, length-set, length-take}
use Rattle.awk_values.specs.declared.fault.Stop.{Stop}
use Rattle.awk_values.specs.declared.value.Value.{Value}
use Rattle.awk_values.specs.declared.value.Value.TheVariants.{StrNum, Uninit}
use Rattle.sem_primitives.specs.FieldMeaning.{at_least, field_number, joined, resized, special_text}
use Rattle.sem_primitives.specs.SharedState.{Inner}
use Rattle.sem_primitives.specs.declared.constants.Special.TheVariants.{Ofs}
use Rattle.host_bytes.specs.Outcomes.{IsPast, IsStopOf}
use Rattle.host_format.specs.declared.span.Span.{Span}
use Rattle.host_fields.specs.Calls.{count_set, field_set}
use Rattle.host_fields.specs.Held.{Held, IsOwn, fields_in, held_in, text_size, with_held}
use Rattle.host_fields.specs.declared.fields.Form.{Form}
use Rattle.host_fields.specs.declared.fields.Form.TheVariants.{Later, Own, Parts, Unbuilt}
use Rattle.host_fields.proofs.Made.{counted, cut_to, field_made, field_not_made, not_counted, number_some}
use Rattle.host_fields.proofs.TextSizes.{joined_size}

own_fields : (form : Form) (whole : Value) (spans : List Span) (own : List Value) → IsOwn form → fields_in form whole spans own ≡ own
own_fields (Later by newlines) whole spans own is = absurd is
own_fields Parts whole spans own is = absurd is
own_fields Own whole spans own is = refl
own_fields (Unbuilt size) whole spans own is = refl

-- the fields after one is set
abbrev pub assigned : ℕ → Value → List Value → List Value
assigned number v own = slice_set (at_least number own) (number - 1) v

assigned_length : (number : ℕ) (v : Value) (own : List Value) → length (assigned number v own) ≡ length own + (number - length own)
assigned_length number v own =
    length-set (at_least number own) (number - 1) v ∙ length-append own (replicate (number - length own) Uninit)
    ∙ ap (λ n. length own + n) (length-replicate (number - length own) Uninit)

-- `$0` of fields whose texts have this size
joined_of : (ofs : List ℕ) (own : List Value) (texts count : ℕ) → texts ≡ sum_by text_size own → count ≡ length own → length (joined ofs own) ≡ texts + (count - 1) * length ofs
joined_of ofs own texts count size many =
    joined_size ofs own ∙ ap (λ n. sum_by text_size own + (n - 1) * length ofs) (sym many) ∙ ap (λ t. t + (count - 1) * length ofs) (sym size)

pub assigned_size : (number : ℕ) (v : Value) (own : List Value) (texts : ℕ) → 1 ≤ number → texts ≡ sum_by text_size (slice_set (at_least (number - 1 + 1) own) (number - 1) v) → texts ≡ sum_by text_size (assigned number v own)
assigned_size number v own texts some size =
    let same : number - 1 + 1 ≡ number = omega (arith, some) in
    size ∙ ap (λ n. sum_by text_size (slice_set (at_least n own) (number - 1) v)) same

assigned_joined : (ofs : List ℕ) (number : ℕ) (v : Value) (own : List Value) (texts count : ℕ) → texts ≡ sum_by text_size (assigned number v own) → count ≡ length own + (number - length own) → length (joined ofs (assigned number v own)) ≡ texts + (count - 1) * length ofs
assigned_joined ofs number v own texts count size many = joined_of ofs (assigned number v own) texts count size (many ∙ sym (assigned_length number v own))

resized_joined : (ofs : List ℕ) (count : ℕ) (own : List Value) (texts : ℕ) → texts ≡ sum_by text_size (resized count own) → length (joined ofs (resized count own)) ≡ texts + (count - 1) * length ofs
resized_joined ofs count own texts size =
    let parts = length-append (take count own) (replicate (count - length own) Uninit) in
    let kept = length-take count own in
    let added = length-replicate (count - length own) Uninit in
    joined_of ofs (resized count own) texts count size (omega (arith, parts, kept, added))

-- the fields are those of the record
pub own_held : (form : Form) (whole : Value) (spans : List Span) (own : List Value) (between : List ℕ) (held : Held) → IsOwn form → held_in form whole spans own between ≡ held → own ≡ held.fields
own_held form whole spans own between held is same = sym (own_fields form whole spans own is) ∙ ap (λ (h : Held). h.fields) same

-- the record whose `$0` is yet to be built
abbrev pub unbuilt : (between : List ℕ) → List Value → Held
unbuilt between own = record { whole = StrNum (joined between own); fields = own }

pub unbuilt_same : (ofs between : List ℕ) (own set : List Value) → between ≡ ofs → set ≡ own → unbuilt ofs own ≡ unbuilt between set
unbuilt_same ofs between own set p q = ap (λ b. unbuilt b own) (sym p) ∙ ap (λ vs. unbuilt between vs) (sym q)

-- `$0` is built
pub built : (form : Form) (whole new : Value) (spans : List Span) (own : List Value) (between : List ℕ) (size : ℕ) → form ≡ Unbuilt size → new ≡ StrNum (joined between own) → held_in Own new spans own between ≡ held_in form whole spans own between
built form whole new spans own between size is e =
    ap (λ w. held_in Own w spans own between) e ∙ ap (λ f. held_in f whole spans own between) (sym is)

module _ (held : Held) (inner : Inner) (ofs : List ℕ) (n : ℤ) (v : Value) (number : ℕ) (own : List Value) (texts count : ℕ) (not : n ≢ pos 0) (is : Ok number ≡ field_number n)
    (same : special_text Ofs inner ≡ ofs) (are : own ≡ held.fields) (size : texts ≡ sum_by text_size (slice_set (at_least (number - 1 + 1) own) (number - 1) v))
    (many : count ≡ length own + (number - length own)) where
  long : length (joined ofs (assigned number v own)) ≡ texts + (count - 1) * length ofs
  long = assigned_joined ofs number v own texts count (assigned_size number v own texts (number_some n number not is) size) many

  pub field_assigned : texts + (count - 1) * length ofs ≤ 2 ^ 26 → field_set n v (with_held held inner) ≡ Ok (with_held (unbuilt ofs (assigned number v own)) inner)
  field_assigned within =
      field_made held inner ofs n v number (at_least number own) (assigned number v own) not is same (ap (at_least number) are) refl (joined ofs (assigned number v own)) refl
      (subst (λ k. k ≤ 2 ^ 26) (sym long) within)

  pub field_too_long : (stop : Stop) → ((text : List ℕ) → length text ≡ texts + (count - 1) * length ofs → IsPast text stop) → IsStopOf (field_set n v (with_held held inner)) stop
  field_too_long stop past =
      field_not_made held inner ofs n v number (at_least number own) (assigned number v own) not is same (ap (at_least number) are) refl stop (past (joined ofs (assigned number v own)) long)

module _ (held : Held) (inner : Inner) (ofs : List ℕ) (n : ℤ) (count : ℕ) (own : List Value) (texts : ℕ) (is : Ok count ≡ field_number n)
    (same : special_text Ofs inner ≡ ofs) (are : own ≡ held.fields) (size : texts ≡ sum_by text_size (resized count own)) where
  pub count_assigned : texts + (count - 1) * length ofs ≤ 2 ^ 26 → count_set n (with_held held inner) ≡ Ok (with_held (unbuilt ofs (resized count own)) inner)
  count_assigned within =
      counted held inner ofs n count (at_least count own) (resized count own) is same (ap (at_least count) are) (sym (cut_to count own)) (joined ofs (resized count own)) refl
      (subst (λ k. k ≤ 2 ^ 26) (sym (resized_joined ofs count own texts size)) within)

  pub count_too_long : (stop : Stop) → ((text : List ℕ) → length text ≡ texts + (count - 1) * length ofs → IsPast text stop) → IsStopOf (count_set n (with_held held inner)) stop
  count_too_long stop past =
      not_counted held inner ofs n count (at_least count own) (resized count own) is same (ap (at_least count) are) (sym (cut_to count own)) stop
      (past (joined ofs (resized count own)) (resized_joined ofs count own texts size))
