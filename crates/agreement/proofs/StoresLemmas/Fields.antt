-- What an assignment to a field or to NF makes of the fields.
use Rattle.std.proofs.Common.{◌≡◌, ℕ, zero, suc, ◌+◌, ◌-◌, ◌<◌, ◌≤◌, max, Bool, true, false, List, [], ◌∷◌, ◌++◌, length, take, get_or, replicate, slice_set, Result, Ok, Err, refl, ap, subst, ◌∙◌, arith, add_comm, length-append}
use Rattle.std.specs.Prelude.{nat_le, if◌then◌else◌}
use Rattle.std.proofs.lemmas.List.{get_or-set_other, get_or-set_same, length-replicate, length-set}
use Rattle.std.proofs.Math.Nat.{max_comm, sub-add-eq-max}
use Rattle.awk_values.specs.declared.fault.Fault.{Fault}
use Rattle.awk_values.specs.declared.fault.Fault.TheVariants.{TextLimit}
use Rattle.awk_values.specs.declared.value.Value.{Value}
use Rattle.awk_values.specs.declared.value.Value.TheVariants.{StrNum, Uninit}
use Rattle.sem_primitives.specs.Limits.{most_text}
use Rattle.sem_primitives.specs.SharedState.{Inner, ◌>>=◌}
use Rattle.sem_primitives.specs.FieldMeaning.{at_least, joined, resized, special_text, with_count, with_field, with_fields}
use Rattle.sem_primitives.specs.declared.constants.Special.TheVariants.{Ofs}
use Rattle.agreement.specs.Stores.Fields.{CountIsAssigned, FieldIsAssigned, IsJoinedAnew}

-- ---- the record is joined anew

abbrev ok_or : Inner → Result Inner Fault → Inner
ok_or other (Ok inner) = inner
ok_or other (Err fault) = other

abbrev is_ok_of : Result Inner Fault → Bool
is_ok_of (Ok inner) = true
is_ok_of (Err fault) = false

abbrev Joins : List Value → Inner → Inner → Type 0
Joins values before after = (after.fields ≡ values) × IsJoinedAnew before after

joins : (values : List Value) (before after : Inner) → with_fields values before ≡ Ok after → Joins values before after
joins values before after = by (nat_le (length text) most_text)
  where
    text : List ℕ
    text = joined (special_text Ofs before) values

    made : Inner
    made = record before { whole = StrNum text; fields = values }

    by : (b : Bool) → ((if b then Ok text else Err TextLimit) >>= λ t. Ok (record before { whole = StrNum t; fields = values })) ≡ Ok after → Joins values before after
    by true e = subst (Joins values before) (ap (ok_or before) e) (refl, record { whole = refl; others = refl })
    by false e = absurd (cc (ap is_ok_of e))

-- ---- fields without a value at the end

none_there : (k m : ℕ) → get_or (replicate k Uninit) m Uninit ≡ Uninit
none_there zero m = refl
none_there (suc k) zero = refl
none_there (suc k) (suc m) = none_there k m

padded : (values : List Value) (k m : ℕ) → get_or (values ++ replicate k Uninit) m Uninit ≡ get_or values m Uninit
padded [] k m = none_there k m
padded (v ∷ vs) k zero = refl
padded (v ∷ vs) k (suc m) = padded vs k m

longer : (a b : ℕ) → a + (b - a) ≡ max a b
longer a b = add_comm a (b - a) ∙ sub-add-eq-max b a ∙ max_comm b a

enough : (n : ℕ) (values : List Value) → length (at_least n values) ≡ max (length values) n
enough n values =
    length-append values (replicate (n - length values) Uninit)
    ∙ ap (length values +◌) (length-replicate (n - length values) Uninit)
    ∙ longer (length values) n

-- ---- a field

pub field_assigned : (n : ℕ) (v : Value) (before after : Inner) → with_field (suc n) v before ≡ Ok after → FieldIsAssigned n v before after
field_assigned n v before after e = by (joins (slice_set (at_least (suc n) before.fields) n v) before after e)
  where
    there : n < length (at_least (suc n) before.fields)
    there = let size = length-append before.fields (replicate (suc n - length before.fields) Uninit) in
        let added = length-replicate (suc n - length before.fields) Uninit in omega (arith, size, added)

    by : Joins (slice_set (at_least (suc n) before.fields) n v) before after → FieldIsAssigned n v before after
    by j = record {
      itself = ap (λ z. get_or z n Uninit) j.0 ∙ get_or-set_same (at_least (suc n) before.fields) n v Uninit there;
      others = λ m other. ap (λ z. get_or z m Uninit) j.0 ∙ get_or-set_other (at_least (suc n) before.fields) n m v Uninit other
          ∙ padded before.fields (suc n - length before.fields) m;
      count = ap length j.0 ∙ length-set (at_least (suc n) before.fields) n v ∙ enough (suc n) before.fields;
      joined_anew = j.1;
    }

-- ---- their number

beyond : (n m : ℕ) (values : List Value) → n ≤ m → get_or (take n values) m Uninit ≡ Uninit
beyond zero m values h = refl
beyond (suc n) m [] h = refl
beyond (suc n) zero (v ∷ vs) h = absurd (omega (arith, h))
beyond (suc n) (suc m) (v ∷ vs) h = beyond n m vs (omega (arith, h))

within : (n m : ℕ) (values : List Value) → m < n → get_or (take n values) m Uninit ≡ get_or values m Uninit
within zero m values h = absurd (omega (arith, h))
within (suc n) m [] h = refl
within (suc n) zero (v ∷ vs) h = refl
within (suc n) (suc m) (v ∷ vs) h = within n m vs (omega (arith, h))

taken : (n : ℕ) (values : List Value) → length (take n values) + (n - length values) ≡ n
taken zero values = omega arith
taken (suc n) [] = omega arith
taken (suc n) (v ∷ vs) = let more = taken n vs in omega (arith, more)

pub count_assigned : (n : ℕ) (before after : Inner) → with_count n before ≡ Ok after → CountIsAssigned n before after
count_assigned n before after e = by (joins (resized n before.fields) before after e)
  where
    none : ℕ
    none = n - length before.fields

    by : Joins (resized n before.fields) before after → CountIsAssigned n before after
    by j = record {
      kept = λ m h. ap (λ z. get_or z m Uninit) j.0 ∙ padded (take n before.fields) none m ∙ within n m before.fields h;
      cut = λ m h. ap (λ z. get_or z m Uninit) j.0 ∙ padded (take n before.fields) none m ∙ beyond n m before.fields h;
      count = ap length j.0 ∙ length-append (take n before.fields) (replicate none Uninit) ∙ ap (length (take n before.fields) +◌) (length-replicate none Uninit)
          ∙ taken n before.fields;
      joined_anew = j.1;
    }
