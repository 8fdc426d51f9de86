-- The record that is made anew of its fields, from the joined text to the state.
use Rattle.std.proofs.Common.{◌≡◌, ◌≢◌, ℕ, ℤ, pos, negsuc, zero, suc, ◌-◌, ◌^◌, ◌<◌, ◌≤◌, Bool, true, false, refl, List, [], ◌∷◌, ◌++◌, length, take, replicate, slice_set, Result, Ok, Err, sym, ap, subst, ◌∙◌, arith, le-leb}
use Rattle.std.specs.Prelude.{nat_le, if◌then◌else◌}
use Rattle.std.proofs.lemmas.Bool.Decides.{nat_tests}
use Rattle.std.proofs.lemmas.List.{take-replicate}
use Rattle.awk_values.specs.declared.fault.Fault.{Fault}
use Rattle.awk_values.specs.declared.fault.Fault.TheVariants.{FieldNumber, TextLimit}
use Rattle.awk_values.specs.declared.fault.Stop.{Stop}
use Rattle.awk_values.specs.declared.fault.Stop.TheVariants as stops
use Rattle.awk_values.specs.declared.value.Value.{Value}
use Rattle.awk_values.specs.declared.value.Value.TheVariants.{StrNum, Uninit}
use Rattle.sem_primitives.specs.FieldMeaning.{at_least, field_number, joined, resized, special_text, with_count, with_field, with_fields}
use Rattle.sem_primitives.specs.SharedState.{Inner, ◌>>=◌}
use Rattle.sem_primitives.specs.Texts.{limited}
use Rattle.sem_primitives.specs.declared.constants.Special.TheVariants.{Ofs}
use Rattle.host_bytes.specs.Outcomes.{IsPast, IsStopOf}
use Rattle.host_fields.specs.Calls.{count_set, field_set}
use Rattle.host_fields.specs.Held.{Held, with_held}

within_limit : (text : List ℕ) → length text ≤ 2 ^ 26 → limited text ≡ Ok text
within_limit text h = ap (λ b. if b then Ok text else Err TextLimit) (le-leb (length text) (2 ^ 26) h)

past_most : (n : ℕ) → 2 ^ 26 < n → nat_le n (2 ^ 26) ≡ false
past_most n h = grind (arith, nat_tests)

past_limit : (text : List ℕ) → 2 ^ 26 < length text → limited text ≡ Err TextLimit
past_limit text h = ap (λ b. if b then Ok text else Err TextLimit) (past_most (length text) h)

abbrev held_by : Inner → List Value → Result (List ℕ) Fault → Result Inner Fault
held_by inner values r = r >>= λ text. Ok (record inner { whole = StrNum text; fields = values })

-- the record is made of these fields, or it stops
pub made : (inner : Inner) (ofs text : List ℕ) (values : List Value) → special_text Ofs inner ≡ ofs → text ≡ joined ofs values → length text ≤ 2 ^ 26
    → with_fields values inner ≡ Ok (record inner { whole = StrNum text; fields = values })
made inner ofs text values same is within =
    ap (λ t. held_by inner values (limited t)) (ap (λ o. joined o values) same ∙ sym is) ∙ ap (held_by inner values) (within_limit text within)

pub not_made : (inner : Inner) (ofs : List ℕ) (values : List Value) (stop : Stop) → special_text Ofs inner ≡ ofs → IsPast (joined ofs values) stop
    → IsStopOf (with_fields values inner) stop
not_made inner ofs values (stops.Fault fault) same p =
    ap (λ o. held_by inner values (limited (joined o values))) same
    ∙ ap (held_by inner values) (past_limit (joined ofs values) p.1) ∙ ap (λ f. Err f) (sym p.0)
not_made inner ofs values stops.NoMemory same p = tt

-- so many of at least so many fields
pub cut_to : (count : ℕ) (values : List Value) → take count (at_least count values) ≡ resized count values
cut_to zero values = let none : 0 - length values ≡ 0 = omega arith in ap (λ n. replicate n Uninit) (sym none)
cut_to (suc n) [] =
    let all : suc n - 0 ≡ suc n = omega arith in
    take-replicate (suc n) (suc n - 0) Uninit (omega arith) ∙ ap (λ k. replicate k Uninit) (sym all)
cut_to (suc n) (v ∷ vs) =
    let less : suc n - suc (length vs) ≡ n - length vs = omega arith in
    ap (λ k. v ∷ take n (vs ++ replicate k Uninit)) less ∙ ap (λ xs. v ∷ xs) (cut_to n vs)
    ∙ ap (λ k. v ∷ (take n vs ++ replicate k Uninit)) (sym less)

module _ (held : Held) (inner : Inner) (ofs : List ℕ) (n : ℤ) (count : ℕ) (own cut : List Value) (is : Ok count ≡ field_number n)
    (same : special_text Ofs inner ≡ ofs) (added : own ≡ at_least count held.fields) (kept : cut ≡ take count own) where
  is_cut : count_set n (with_held held inner) ≡ with_fields cut (with_held held inner)
  is_cut =
      ap (λ (r : Result ℕ Fault). r >>= λ k. with_count k (with_held held inner)) (sym is)
      ∙ ap (λ (vs : List Value). with_fields vs (with_held held inner)) (sym (cut_to count held.fields) ∙ ap (take count) (sym added) ∙ sym kept)

  pub counted : (text : List ℕ) → text ≡ joined ofs cut → length text ≤ 2 ^ 26
      → count_set n (with_held held inner) ≡ Ok (with_held (record { whole = StrNum text; fields = cut }) inner)
  counted text joins within = is_cut ∙ made (with_held held inner) ofs text cut same joins within

  pub not_counted : (stop : Stop) → IsPast (joined ofs cut) stop → IsStopOf (count_set n (with_held held inner)) stop
  not_counted stop past = subst (λ (r : Result Inner Fault). IsStopOf r stop) (sym is_cut) (not_made (with_held held inner) ofs cut stop same past)

-- a number of a field is none of `$0`
number_by : (b : Bool) (m number : ℕ) → ◌≡◌ {A = Result ℕ Fault} (Ok number) (if b then Ok m else Err FieldNumber) → number ≡ m
number_by true m number e = cc
number_by false m number e = cc

pub number_some : (n : ℤ) (number : ℕ) → n ≢ pos 0 → Ok number ≡ field_number n → 1 ≤ number
number_some (pos zero) number not e = absurd (not refl)
number_some (pos (suc m)) number not e = let same = number_by (nat_le (suc m) (2 ^ 20)) (suc m) number e in omega (arith, same)
number_some (negsuc m) number not e = cc

field_is : (number : ℕ) (v : Value) (inner : Inner) → 1 ≤ number → with_field number v inner ≡ with_fields (slice_set (at_least number inner.fields) (number - 1) v) inner
field_is zero v inner some = absurd (omega (arith, some))
field_is (suc k) v inner some =
    let less : suc k - 1 ≡ k = omega arith in ap (λ j. with_fields (slice_set (at_least (suc k) inner.fields) j v) inner) (sym less)

module _ (held : Held) (inner : Inner) (ofs : List ℕ) (n : ℤ) (v : Value) (number : ℕ) (own set : List Value) (not : n ≢ pos 0) (is : Ok number ≡ field_number n)
    (same : special_text Ofs inner ≡ ofs) (added : own ≡ at_least number held.fields) (put : set ≡ slice_set own (number - 1) v) where
  is_set : field_set n v (with_held held inner) ≡ with_fields set (with_held held inner)
  is_set =
      ap (λ (r : Result ℕ Fault). r >>= λ k. with_field k v (with_held held inner)) (sym is)
      ∙ field_is number v (with_held held inner) (number_some n number not is)
      ∙ ap (λ (vs : List Value). with_fields vs (with_held held inner)) (ap (λ (vs : List Value). slice_set vs (number - 1) v) (sym added) ∙ sym put)

  pub field_made : (text : List ℕ) → text ≡ joined ofs set → length text ≤ 2 ^ 26
      → field_set n v (with_held held inner) ≡ Ok (with_held (record { whole = StrNum text; fields = set }) inner)
  field_made text joins within = is_set ∙ made (with_held held inner) ofs text set same joins within

  pub field_not_made : (stop : Stop) → IsPast (joined ofs set) stop → IsStopOf (field_set n v (with_held held inner)) stop
  field_not_made stop past = subst (λ (r : Result Inner Fault). IsStopOf r stop) (sym is_set) (not_made (with_held held inner) ofs set stop same past)

-- what stops at its number stops
pub number_stops : (r : Result ℕ Fault) (f : ℕ → Result Inner Fault) (stop : Stop) → IsStopOf r stop → IsStopOf (r >>= f) stop
number_stops r f (stops.Fault fault) e = ap (λ (x : Result ℕ Fault). x >>= f) e
number_stops r f stops.NoMemory e = tt
