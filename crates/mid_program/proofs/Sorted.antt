-- Code whose names and operations are written anew is well sorted where the code was.
use Rattle.std.proofs.Common.{◌≡◌, ℕ, zero, suc, Bool, true, false, not, T, ◌&&◌, nat_le, nat_lt, List, [], ◌∷◌, ◌++◌, length, map, Option, Some, None, refl, sym, ap, ◌∙◌}
use Rattle.std.proofs.lemmas.Bool.{and_parts, and_from}
use Rattle.std.proofs.lemmas.List.{length-map}
use Rattle.sem_primitives.specs.declared.sorts.Sort.{Sort}
use Rattle.sem_primitives.specs.declared.sorts.Sort.TheVariants as sort
use Rattle.sem_primitives.specs.declared.sorts.Argument.{Argument}
use Rattle.sem_primitives.specs.declared.sorts.Argument.TheVariants as argument
use Rattle.sem_primitives.specs.InTurn.{values_wanted}
use Rattle.sem_scripts.specs.Names.{ArrayName}
use Rattle.mid_program.specs.declared.mid.Operation.{Operation}
use Rattle.mid_program.specs.Mid.{Kind, Boxed, Unboxed, ArrayKind, Slot, Global, Parameter, Code, Do, Over, Compare, Call, Ask, AskLine, FileLine, Replace, Number, Text, Unset, Get, Set, Array, IsOpen, Choose, Seq, Let, Bound, Codes, End, At, Fixed, Fresh, Step, Eval, Block, If, Loop, Each, Break, Continue, Next, Exit, ExitWith, Return, Mark, Steps, NoStep, Then, Form, PrimitiveAnswer, NumberOrText, OptionalNumber, a_value, read_form, slot_form, form_at, form_of, source_of, answer_by, arguments, parameters_at}
use Rattle.mid_program.specs.Sorted.{Context, lender_at, has_lender, fits, is_number, is_tested, is_dropped, is_slot, takes, is_array_place, is_constant, fit_row, all_values, count_of, is_given, fit_call, Held, There, either_way, held_after, held_after_all, is_bound, is_well_used, keeps_well, stores_well, are_missing, sorted, all_sorted, step_sorted, steps_sorted}
use Rattle.mid_program.specs.Alike.{erased}
use Rattle.mid_program.specs.Rewriting.{code_in, codes_in, step_in, steps_in}
use Rattle.mid_program.specs.Stores.{Store, Into, Given, Asked, Every, stores, stores_in, stores_given, step_stores, steps_stores}

pub from_T : (b : Bool) → T b → b ≡ true
from_T true t = refl
from_T false t = absurd t

-- forms that are the same but for lanes

by_erased : {A : Type 0} (p : Form → A) → ((f : Form) → p f ≡ p (erased f)) → (f g : Form) → erased f ≡ erased g → p g ≡ p f
by_erased p e f g h = e g ∙ ap p (sym h) ∙ sym (e f)

fits_erased : (s : Sort) (f : Form) → fits f s ≡ fits (erased f) s
fits_erased s (PrimitiveAnswer a) = refl
fits_erased sort.Value NumberOrText = refl
fits_erased sort.Number NumberOrText = refl
fits_erased sort.Array NumberOrText = refl
fits_erased sort.Iterator NumberOrText = refl
fits_erased s OptionalNumber = refl

number_erased : (f : Form) → is_number f ≡ is_number (erased f)
number_erased (PrimitiveAnswer a) = refl
number_erased NumberOrText = refl
number_erased OptionalNumber = refl

pub number_alike : (f g : Form) → erased f ≡ erased g → is_number g ≡ is_number f
number_alike = by_erased is_number number_erased

pub value_alike : (f g : Form) → erased f ≡ erased g → fits g sort.Value ≡ fits f sort.Value
value_alike = by_erased (λ f. fits f sort.Value) (fits_erased sort.Value)

tested_erased : (f : Form) → is_tested f ≡ is_tested (erased f)
tested_erased (PrimitiveAnswer a) = refl
tested_erased NumberOrText = refl
tested_erased OptionalNumber = refl

dropped_erased : (f : Form) → is_dropped f ≡ is_dropped (erased f)
dropped_erased (PrimitiveAnswer a) = refl
dropped_erased NumberOrText = refl
dropped_erased OptionalNumber = refl

given_erased : (l : Option ℕ) (o : Option Slot) (k : Kind) (f : Form) → is_given l o f k ≡ is_given l o (erased f) k
given_erased l o k (PrimitiveAnswer a) = refl
given_erased l o Boxed NumberOrText = refl
given_erased None o Unboxed NumberOrText = refl
given_erased (Some g) o Unboxed NumberOrText = refl
given_erased l o ArrayKind NumberOrText = refl
given_erased l o k OptionalNumber = refl

form_at_erased : (fs gs : List Form) → map erased fs ≡ map erased gs → (i : ℕ) → erased (form_at fs i) ≡ erased (form_at gs i)
form_at_erased fs gs h i = erased_at fs i ∙ ap (λ (es : List Form). form_at es i) h ∙ sym (erased_at gs i)
  where
    erased_at : (es : List Form) (j : ℕ) → erased (form_at es j) ≡ form_at (map erased es) j
    erased_at [] j = refl
    erased_at (e ∷ es) zero = refl
    erased_at (e ∷ es) (suc j) = erased_at es j

same_length : (fs gs : List Form) → map erased fs ≡ map erased gs → length gs ≡ length fs
same_length fs gs h = sym (length-map gs erased) ∙ ap (λ (es : List Form). length es) (sym h) ∙ length-map fs erased

pub read_erased : (u b : Bool) → erased (read_form u) ≡ erased (read_form b)
read_erased true true = refl
read_erased true false = refl
read_erased false true = refl
read_erased false false = refl

pub every_parts : (P : Store → Type 0) (xs ys : List Store) → Every P (xs ++ ys) → Every P xs × Every P ys
every_parts P [] ys h = (tt, h)
every_parts P (x ∷ xs) ys h = let rest = every_parts P xs ys h.1 in ((h.0, rest.0), rest.1)

-- names keep their forms but for lanes; what stands for an operation answers the same, and moves the same of what is kept
pub record Keeps (slots : Slot → Slot) (operation : Operation → Codes → Code) : Type 0 where
  pub slot_forms : (x : Slot) → erased (slot_form x) ≡ erased (slot_form (slots x))
  pub forms : (fs : List Form) (o : Operation) (es : Codes) → form_of fs (operation o es) ≡ PrimitiveAnswer (answer_by o)
  pub sources : (o : Operation) (es : Codes) → source_of (operation o es) ≡ None
  pub moves : (i : ℕ) (h : Held) (o : Operation) (es : Codes) → held_after i (operation o es) h ≡ held_after_all i es h

abbrev pub copy_of : (slots : Slot → Slot) → Option Slot → Option Slot
copy_of slots None = None
copy_of slots (Some x) = Some (slots x)

-- arguments, each a copy of what stands for the name that it was a copy of
abbrev pub fit_copied : (slots : Slot → Slot) → (lender : ℕ → Option ℕ) → List Form → List Kind → Codes → Bool
fit_copied slots lender fs [] End = true
fit_copied slots lender fs (k ∷ ks) (At e es) = is_given (lender zero) (copy_of slots (source_of e)) (form_of fs e) k && fit_copied slots (λ i. lender (suc i)) fs ks es
fit_copied slots lender fs (ArrayKind ∷ ks) (Fresh es) = fit_copied slots (λ i. lender (suc i)) fs ks es
fit_copied slots lender fs _ _ = false

-- what may be named stays there, and may take what is stored, of which P is known; what stands for an operation is well sorted
pub record Stays (slots : Slot → Slot) (operation : Operation → Codes → Code) (P : Store → Type 0) (c d : Context) : Type 0 where
  pub texts : c.texts ≡ d.texts
  pub ranges : c.ranges ≡ d.ranges
  pub calls : length d.calls ≡ length c.calls
  pub slot : (x : Slot) → is_slot c x ≡ true → is_slot d (slots x) ≡ true
  pub array : (a : ArrayName) → is_array_place c a ≡ true → is_array_place d a ≡ true
  pub asks : not (has_lender c.lenders) ≡ true → P Asked → not (has_lender d.lenders) ≡ true
  pub stored : (x : Slot) (o : Option Slot) (f g : Form) → erased f ≡ erased g → takes c x o f ≡ true → P (Into x o f) → takes d (slots x) (copy_of slots o) g ≡ true
  pub given : (f : ℕ) (fs : List Form) (es : Codes) → fit_call (lender_at c.lenders) fs (parameters_at c.calls f) es ≡ true → Every P (stores_given f 0 fs es) →
      fit_copied slots (lender_at d.lenders) fs (parameters_at d.calls f) es ≡ true
  pub does : (fs : List Form) (o : Operation) (es : Codes) → sorted d fs (Do o es) ≡ true → sorted d fs (operation o es) ≡ true

module _ (slots : Slot → Slot) (operation : Operation → Codes → Code) (K : Keeps slots operation) where
  abbrev re : Code → Code
  re = code_in slots operation

  abbrev res : Codes → Codes
  res = codes_in slots operation

  form_kept : (fs hs : List Form) → map erased fs ≡ map erased hs → (e : Code) → erased (form_of fs e) ≡ erased (form_of hs (re e))
  form_kept fs hs k (Do o es) = ap erased (sym (K.forms hs o (res es)))
  form_kept fs hs k (Over l es) = refl
  form_kept fs hs k (Compare op a b) = refl
  form_kept fs hs k (Call f es) = refl
  form_kept fs hs k Ask = refl
  form_kept fs hs k (AskLine s) = refl
  form_kept fs hs k (FileLine e s) = refl
  form_kept fs hs k (Replace all es s) = refl
  form_kept fs hs k (Number z) = refl
  form_kept fs hs k (Text i) = refl
  form_kept fs hs k Unset = refl
  form_kept fs hs k (Get x) = K.slot_forms x
  form_kept fs hs k (Set x e) = form_kept fs hs k e
  form_kept fs hs k (Array a) = refl
  form_kept fs hs k (IsOpen i) = refl
  form_kept fs hs k (Choose s e a b) = refl
  form_kept fs hs k (Seq a b) = form_kept fs hs k b
  form_kept fs hs k (Let a b) = form_kept (form_of fs a ∷ fs) (form_of hs (re a) ∷ hs) (λ i. form_kept fs hs k a i ∷ k i) b
  form_kept fs hs k (Bound m i) = form_at_erased fs hs k i

  -- what stands for an operation is no copy of a name
  source_kept : (e : Code) → copy_of slots (source_of e) ≡ source_of (re e)
  source_kept (Do o es) = sym (K.sources o (res es))
  source_kept e = refl

  mutual
    held_kept : (i : ℕ) (e : Code) (h : Held) → held_after i (re e) h ≡ held_after i e h
    held_kept i (Do o es) h = K.moves i h o (res es) ∙ held_all_kept i es h
    held_kept i (Over l es) h = held_all_kept i es h
    held_kept i (Compare op a b) h = held_kept i b (held_after i (re a) h) ∙ ap (held_after i b) (held_kept i a h)
    held_kept i (Call f es) h = held_all_kept i es h
    held_kept i Ask h = refl
    held_kept i (AskLine s) h = ap (either_way h) (held_kept (suc i) s h)
    held_kept i (FileLine e s) h = ap (λ (g : Held). either_way g (held_after (suc i) (re s) g)) (held_kept i e h) ∙ ap (either_way (held_after i e h)) (held_kept (suc i) s (held_after i e h))
    held_kept i (Replace all es s) h = ap (λ (g : Held). either_way g (held_after (suc i) (re s) g)) (held_all_kept i es h) ∙ ap (either_way (held_after_all i es h)) (held_kept (suc i) s (held_after_all i es h))
    held_kept i (Number z) h = refl
    held_kept i (Text t) h = refl
    held_kept i Unset h = refl
    held_kept i (Get x) h = refl
    held_kept i (Set x e) h = held_kept i e h
    held_kept i (Array a) h = refl
    held_kept i (IsOpen r) h = refl
    held_kept i (Choose s e a b) h =
        ap (λ (g : Held). either_way (held_after i (re a) g) (held_after i (re b) g)) (held_kept i e h)
        ∙ (λ j. either_way (held_kept i a (held_after i e h) j) (held_kept i b (held_after i e h) j))
    held_kept i (Seq a b) h = held_kept i b (held_after i (re a) h) ∙ ap (held_after i b) (held_kept i a h)
    held_kept i (Let a b) h = held_kept (suc i) b (held_after i (re a) h) ∙ ap (held_after (suc i) b) (held_kept i a h)
    held_kept i (Bound m j) h = refl

    held_all_kept : (i : ℕ) (es : Codes) (h : Held) → held_after_all i (res es) h ≡ held_after_all i es h
    held_all_kept i End h = refl
    held_all_kept i (At e es) h = held_all_kept i es (held_after i (re e) h) ∙ ap (held_after_all i es) (held_kept i e h)
    held_all_kept i (Fixed n es) h = held_all_kept i es h
    held_all_kept i (Fresh es) h = held_all_kept i es h

  keeps_same : (e : Code) → keeps_well (re e) ≡ keeps_well e
  keeps_same e = ap is_well_used (held_kept zero e There)

  missing_kept : (es : Codes) → are_missing es ≡ true → are_missing (res es) ≡ true
  missing_kept End h = refl
  missing_kept (At Unset es) h = missing_kept es h
  missing_kept (At e es) h = cc
  missing_kept (Fixed n es) h = cc
  missing_kept (Fresh es) h = missing_kept es h

  count_kept : (es : Codes) → count_of (res es) ≡ count_of es
  count_kept End = refl
  count_kept (At e es) = ap suc (count_kept es)
  count_kept (Fixed n es) = count_kept es
  count_kept (Fresh es) = count_kept es

  module _ (fs hs : List Form) (k : map erased fs ≡ map erased hs) where
    by_form : {A : Type 0} (p : Form → A) → ((f : Form) → p f ≡ p (erased f)) → (e : Code) → p (form_of hs (re e)) ≡ p (form_of fs e)
    by_form p q e = by_erased p q (form_of fs e) (form_of hs (re e)) (form_kept fs hs k e)

    fits_kept : (s : Sort) (e : Code) → fits (form_of hs (re e)) s ≡ fits (form_of fs e) s
    fits_kept s e = by_form (λ f. fits f s) (fits_erased s) e

    row_kept : (ws : List Argument) (es : Codes) → fit_row hs ws (res es) ≡ fit_row fs ws es
    row_kept [] End = refl
    row_kept [] (At e es) = refl
    row_kept [] (Fixed n es) = refl
    row_kept [] (Fresh es) = refl
    row_kept (argument.Of s ∷ ws) End = refl
    row_kept (argument.Of s ∷ ws) (At e es) = λ i. fits_kept s e i && row_kept ws es i
    row_kept (argument.Of s ∷ ws) (Fixed n es) = refl
    row_kept (argument.Of s ∷ ws) (Fresh es) = refl
    row_kept (argument.Constant x ∷ ws) End = refl
    row_kept (argument.Constant x ∷ ws) (At e es) = refl
    row_kept (argument.Constant x ∷ ws) (Fixed n es) = ap (λ (b : Bool). is_constant x n && b) (row_kept ws es)
    row_kept (argument.Constant x ∷ ws) (Fresh es) = refl
    row_kept (argument.Place ∷ ws) End = refl
    row_kept (argument.Place ∷ ws) (At e es) = refl
    row_kept (argument.Place ∷ ws) (Fixed n es) = refl
    row_kept (argument.Place ∷ ws) (Fresh es) = refl

    values_kept : (es : Codes) → all_values hs (res es) ≡ all_values fs es
    values_kept End = refl
    values_kept (At e es) = λ i. fits_kept sort.Value e i && values_kept es i
    values_kept (Fixed n es) = refl
    values_kept (Fresh es) = refl

    call_kept : (lender : ℕ → Option ℕ) (ks : List Kind) (es : Codes) → fit_call lender hs ks (res es) ≡ fit_copied slots lender fs ks es
    call_kept lender [] End = refl
    call_kept lender [] (At e es) = refl
    call_kept lender [] (Fixed n es) = refl
    call_kept lender [] (Fresh es) = refl
    call_kept lender (x ∷ ks) End = refl
    call_kept lender (x ∷ ks) (At e es) =
        let first = ap (λ o. is_given (lender zero) o (form_of hs (re e)) x) (sym (source_kept e))
        ∙ by_form (λ f. is_given (lender zero) (copy_of slots (source_of e)) f x) (given_erased (lender zero) (copy_of slots (source_of e)) x) e in
        λ i. first i && call_kept (λ j. lender (suc j)) ks es i
    call_kept lender (Boxed ∷ ks) (Fixed n es) = refl
    call_kept lender (Unboxed ∷ ks) (Fixed n es) = refl
    call_kept lender (ArrayKind ∷ ks) (Fixed n es) = refl
    call_kept lender (Boxed ∷ ks) (Fresh es) = refl
    call_kept lender (Unboxed ∷ ks) (Fresh es) = refl
    call_kept lender (ArrayKind ∷ ks) (Fresh es) = call_kept (λ j. lender (suc j)) ks es

    store_kept : (e : Code) → stores_well hs (re e) ≡ stores_well fs e
    store_kept e = λ i. keeps_same e i && by_erased is_dropped dropped_erased (form_of (a_value ∷ fs) e) (form_of (a_value ∷ hs) (re e)) (form_kept (a_value ∷ fs) (a_value ∷ hs) (λ j. a_value ∷ k j) e) i

    bound_kept : (i : ℕ) → is_bound hs i ≡ is_bound fs i
    bound_kept i = ap (nat_lt i) (same_length fs hs k)

  module _ (P : Store → Type 0) (c d : Context) (S : Stays slots operation P c d) where
    mutual
      unfolding sorted all_sorted

      sorted_kept : (fs hs : List Form) → map erased fs ≡ map erased hs → (e : Code) → sorted c fs e ≡ true → Every P (stores fs e) → sorted d hs (re e) ≡ true
      sorted_kept fs hs k (Do o es) h v =
          let p = and_parts _ _ h in let q = and_parts _ _ p.1 in
          S.does hs o (res es) (and_from _ _ p.0 (and_from _ _ (row_kept fs hs k (arguments o) es ∙ q.0) (all_kept fs hs k es q.1 v)))
      sorted_kept fs hs k (Over l es) h v =
          let p = and_parts _ _ h in let q = and_parts _ _ p.1 in
          and_from _ _ (ap (nat_le (values_wanted l)) (count_kept es) ∙ p.0) (and_from _ _ (values_kept fs hs k es ∙ q.0) (all_kept fs hs k es q.1 v))
      sorted_kept fs hs k (Compare op a b) h v =
          let p = and_parts _ _ h in let q = and_parts _ _ p.1 in let r = and_parts _ _ q.1 in let w = every_parts P (stores fs a) (stores fs b) v in
          and_from _ _ (fits_kept fs hs k sort.Value a ∙ p.0) (and_from _ _ (fits_kept fs hs k sort.Value b ∙ q.0) (and_from _ _ (sorted_kept fs hs k a r.0 w.0) (sorted_kept fs hs k b r.1 w.1)))
      sorted_kept fs hs k (Call f es) h v =
          let p = and_parts _ _ h in let q = and_parts _ _ p.1 in
          and_from _ _ (ap (nat_lt f) S.calls ∙ p.0)
          (and_from _ _ (call_kept fs hs k (lender_at d.lenders) (parameters_at d.calls f) es ∙ S.given f fs es q.0 v) (all_kept_given fs hs k f 0 es q.1 v))
      sorted_kept fs hs k Ask h v = S.asks h v.0
      sorted_kept fs hs k (AskLine s) h v =
          let p = and_parts _ _ h in let q = and_parts _ _ p.1 in
          and_from _ _ (S.asks p.0 v.0) (and_from _ _ (store_kept fs hs k s ∙ q.0) (sorted_kept (a_value ∷ fs) (a_value ∷ hs) (λ j. a_value ∷ k j) s q.1 v.1))
      sorted_kept fs hs k (FileLine e s) h v =
          let p = and_parts _ _ h in let q = and_parts _ _ p.1 in let r = and_parts _ _ q.1 in let w = every_parts P (stores fs e) (stores (a_value ∷ fs) s) v in
          and_from _ _ (fits_kept fs hs k sort.Value e ∙ p.0)
          (and_from _ _ (sorted_kept fs hs k e q.0 w.0) (and_from _ _ (store_kept fs hs k s ∙ r.0) (sorted_kept (a_value ∷ fs) (a_value ∷ hs) (λ j. a_value ∷ k j) s r.1 w.1)))
      sorted_kept fs hs k (Replace all es s) h v =
          let p = and_parts _ _ h in let q = and_parts _ _ p.1 in let r = and_parts _ _ q.1 in let w = every_parts P (stores_in fs es) (stores (a_value ∷ fs) s) v in
          and_from _ _ (row_kept fs hs k (argument.Of sort.Value ∷ argument.Of sort.Value ∷ argument.Of sort.Value ∷ []) es ∙ p.0)
          (and_from _ _ (all_kept fs hs k es q.0 w.0) (and_from _ _ (store_kept fs hs k s ∙ r.0) (sorted_kept (a_value ∷ fs) (a_value ∷ hs) (λ j. a_value ∷ k j) s r.1 w.1)))
      sorted_kept fs hs k (Number z) h v = h
      sorted_kept fs hs k (Text i) h v = ap (nat_lt i) (sym S.texts) ∙ h
      sorted_kept fs hs k Unset h v = refl
      sorted_kept fs hs k (Get x) h v = S.slot x h
      sorted_kept fs hs k (Set x e) h v =
          let p = and_parts _ _ h in let q = and_parts _ _ p.1 in let w = every_parts P (stores fs e) (Into x (source_of e) (form_of fs e) ∷ []) v in
          and_from _ _ (S.slot x p.0)
          (and_from _ _
          (ap (λ o. takes d (slots x) o (form_of hs (re e))) (sym (source_kept e)) ∙ S.stored x (source_of e) (form_of fs e) (form_of hs (re e)) (form_kept fs hs k e) q.0 w.1.0)
          (sorted_kept fs hs k e q.1 w.0))
      sorted_kept fs hs k (Array a) h v = S.array a h
      sorted_kept fs hs k (IsOpen i) h v = ap (nat_lt i) (sym S.ranges) ∙ h
      sorted_kept fs hs k (Choose s e a b) h v =
          let p = and_parts _ _ h in let q = and_parts _ _ p.1 in let r = and_parts _ _ q.1 in let t = and_parts _ _ r.1 in let u = and_parts _ _ t.1 in let x = and_parts _ _ u.1 in
          let w = every_parts P (stores fs e) (stores fs a ++ stores fs b) v in let y = every_parts P (stores fs a) (stores fs b) w.1 in
          and_from _ _ p.0 (and_from _ _ (by_form fs hs k is_tested tested_erased e ∙ q.0) (and_from _ _ (fits_kept fs hs k s a ∙ r.0) (and_from _ _ (fits_kept fs hs k s b ∙ t.0)
          (and_from _ _ (sorted_kept fs hs k e u.0 w.0) (and_from _ _ (sorted_kept fs hs k a x.0 y.0) (sorted_kept fs hs k b x.1 y.1))))))
      sorted_kept fs hs k (Seq a b) h v =
          let p = and_parts _ _ h in let q = and_parts _ _ p.1 in let w = every_parts P (stores fs a) (stores fs b) v in
          and_from _ _ (by_form fs hs k is_dropped dropped_erased a ∙ p.0) (and_from _ _ (sorted_kept fs hs k a q.0 w.0) (sorted_kept fs hs k b q.1 w.1))
      sorted_kept fs hs k (Let a b) h v =
          let p = and_parts _ _ h in let q = and_parts _ _ p.1 in let r = and_parts _ _ q.1 in let w = every_parts P (stores fs a) (stores (form_of fs a ∷ fs) b) v in
          and_from _ _ (by_form fs hs k is_tested tested_erased a ∙ p.0)
          (and_from _ _ (keeps_same b ∙ q.0) (and_from _ _ (sorted_kept fs hs k a r.0 w.0) (sorted_kept (form_of fs a ∷ fs) (form_of hs (re a) ∷ hs) (λ j. form_kept fs hs k a j ∷ k j) b r.1 w.1)))
      sorted_kept fs hs k (Bound m i) h v = bound_kept fs hs k i ∙ h

      all_kept : (fs hs : List Form) → map erased fs ≡ map erased hs → (es : Codes) → all_sorted c fs es ≡ true → Every P (stores_in fs es) → all_sorted d hs (res es) ≡ true
      all_kept fs hs k End h v = refl
      all_kept fs hs k (At e es) h v = let p = and_parts _ _ h in let w = every_parts P (stores fs e) (stores_in fs es) v in and_from _ _ (sorted_kept fs hs k e p.0 w.0) (all_kept fs hs k es p.1 w.1)
      all_kept fs hs k (Fixed n es) h v = all_kept fs hs k es h v
      all_kept fs hs k (Fresh es) h v = let p = and_parts (are_missing es) _ h in and_from _ _ (missing_kept es p.0) (all_kept fs hs k es p.1 v)

      all_kept_given : (fs hs : List Form) → map erased fs ≡ map erased hs → (f i : ℕ) (es : Codes) → all_sorted c fs es ≡ true → Every P (stores_given f i fs es) → all_sorted d hs (res es) ≡ true
      all_kept_given fs hs k f i End h v = refl
      all_kept_given fs hs k f i (At e es) h v =
          let p = and_parts _ _ h in let w = every_parts P (stores fs e) (Given f i (source_of e) (form_of fs e) ∷ stores_given f (suc i) fs es) v in
          and_from _ _ (sorted_kept fs hs k e p.0 w.0) (all_kept_given fs hs k f (suc i) es p.1 w.1.1)
      all_kept_given fs hs k f i (Fixed n es) h v = all_kept_given fs hs k f (suc i) es h v
      all_kept_given fs hs k f i (Fresh es) h v = let p = and_parts (are_missing es) _ h in and_from _ _ (missing_kept es p.0) (all_kept_given fs hs k f (suc i) es p.1 v)

    -- statements keep nothing from one to the next

    alone : (e : Code) → sorted c [] e ≡ true → Every P (stores [] e) → sorted d [] (re e) ≡ true
    alone e h v = sorted_kept [] [] refl e h v

    test_kept : (e : Code) → (is_tested (form_of [] e) && sorted c [] e) ≡ true → Every P (stores [] e) → (is_tested (form_of [] (re e)) && sorted d [] (re e)) ≡ true
    test_kept e h v = let p = and_parts (is_tested (form_of [] e)) (sorted c [] e) h in and_from _ _ (by_form [] [] refl is_tested tested_erased e ∙ p.0) (alone e p.1 v)

    mutual
      unfolding step_sorted steps_sorted

      step_kept : (r l : Bool) (s : Step) → step_sorted c r l s ≡ true → Every P (step_stores s) → step_sorted d r l (step_in slots operation s) ≡ true
      step_kept r l (Eval e) h v = let p = and_parts _ _ h in and_from _ _ (by_form [] [] refl is_dropped dropped_erased e ∙ p.0) (alone e p.1 v)
      step_kept r l (Block ss) h v = steps_rewritten r l ss h v
      step_kept r l (If e a b) h v =
          let p = and_parts _ _ h in let q = and_parts _ _ p.1 in let w = every_parts P (stores [] e) (step_stores a ++ step_stores b) v in let y = every_parts P (step_stores a) (step_stores b) w.1 in
          and_from _ _ (test_kept e p.0 w.0) (and_from _ _ (step_kept r l a q.0 y.0) (step_kept r l b q.1 y.1))
      step_kept r l (Loop first e a b) h v =
          let p = and_parts _ _ h in let q = and_parts _ _ p.1 in let w = every_parts P (stores [] e) (step_stores a ++ step_stores b) v in let y = every_parts P (step_stores a) (step_stores b) w.1 in
          and_from _ _ (test_kept e p.0 w.0) (and_from _ _ (step_kept r true a q.0 y.0) (step_kept r false b q.1 y.1))
      step_kept r l (Each a e s) h v =
          let p = and_parts _ _ h in let q = and_parts _ _ p.1 in let t = and_parts _ _ q.1 in let w = every_parts P (stores (a_value ∷ []) e) (step_stores s) v in
          and_from _ _ (S.array a p.0) (and_from _ _ (store_kept [] [] refl e ∙ q.0) (and_from _ _ (sorted_kept (a_value ∷ []) (a_value ∷ []) refl e t.0 w.0) (step_kept r true s t.1 w.1)))
      step_kept r l Break h v = h
      step_kept r l Continue h v = h
      step_kept r l Next h v = h
      step_kept r l Exit h v = h
      step_kept r l (ExitWith e) h v = let p = and_parts _ _ h in and_from _ _ (fits_kept [] [] refl sort.Number e ∙ p.0) (alone e p.1 v)
      step_kept r l (Return e) h v =
          let p = and_parts _ _ h in let q = and_parts _ _ p.1 in and_from _ _ p.0 (and_from _ _ (fits_kept [] [] refl sort.Value e ∙ q.0) (alone e q.1 v))
      step_kept r l (Mark i b) h v = ap (nat_lt i) (sym S.ranges) ∙ h

      pub steps_rewritten : (r l : Bool) (ss : Steps) → steps_sorted c r l ss ≡ true → Every P (steps_stores ss) → steps_sorted d r l (steps_in slots operation ss) ≡ true
      steps_rewritten r l NoStep h v = refl
      steps_rewritten r l (Then s ss) h v = let p = and_parts _ _ h in let w = every_parts P (step_stores s) (steps_stores ss) v in and_from _ _ (step_kept r l s p.0 w.0) (steps_rewritten r l ss p.1 w.1)
