-- The pairs of an array, by a table's words and by the rows'; and the numbers of fields.
use Rattle.std.proofs.lemmas.Bool.{cases_Bool}
use Rattle.std.proofs.Common.{suc, arith, eqb-true, ◌≡◌, inl, inr, ℕ, Bool, true, false, List, [], ◌∷◌, ◌++◌, Some, None, Result, Ok, Err, refl, sym, ap, ◌∙◌}
use Rattle.std.specs.Prelude.{◌==◌, ◌^◌, ℤ, pos, negsuc, nat_le, if◌then◌else◌}
use Rattle.std.specs.Cmp.Lexicographic.{bytes_decides}
use Rattle.awk_values.specs.declared.fault.Fault.{Fault}
use Rattle.awk_values.specs.declared.fault.Fault.TheVariants.{FieldNumber}
use Rattle.awk_values.specs.declared.value.Value.{Value}
use Rattle.awk_values.specs.declared.value.Value.TheVariants.{Uninit}
use Rattle.sem_primitives.specs.Numbers.{Number}
use Rattle.sem_primitives.specs.SharedState.{Pairs}
use Rattle.sem_primitives.specs.FieldMeaning.{field_number}
use Rattle.sem_primitives.specs.ArrayMeaning.{element, stored}
use Rattle.sem_scripts.specs.Steps.{is_field_number}
use Rattle.host_arrays.specs.Pairs.{created, created_by, get_pair, is_key, set_pair}

pub got : (key : List ℕ) (pairs : Pairs) → get_pair key pairs ≡ element key pairs
got key [] = refl
got key (p ∷ ps) = ap (λ o. if is_key key p.0 then Some p.1 else o) (got key ps)

pub put : (key : List ℕ) (v : Value) (pairs : Pairs) → set_pair key v pairs ≡ stored key v pairs
put key v [] = refl
put key v (p ∷ ps) = by (put key v ps) (is_key key p.0) (λ e. sym ((bytes_decides key p.0).0 e))
  where
    by : set_pair key v ps ≡ stored key v ps → (b : Bool) → (b ≡ true → p.0 ≡ key) →
        (if b then (p.0, v) ∷ ps else p ∷ set_pair key v ps) ≡ (if b then (key, v) ∷ ps else p ∷ stored key v ps)
    by rest true same = ap (λ (k : List ℕ). (k, v) ∷ ps) (same refl)
    by rest false same = ap (λ (qs : Pairs). p ∷ qs) rest

last : (key : List ℕ) (v : Value) (pairs : Pairs) → element key pairs ≡ None → stored key v pairs ≡ pairs ++ (key, v) ∷ []
last key v [] h = refl
last key v (p ∷ ps) h = by (λ e. last key v ps e) (is_key key p.0) h
  where
    by : (element key ps ≡ None → stored key v ps ≡ ps ++ (key, v) ∷ []) → (b : Bool) → (if b then Some p.1 else element key ps) ≡ None →
        (if b then (key, v) ∷ ps else p ∷ stored key v ps) ≡ p ∷ (ps ++ (key, v) ∷ [])
    by go true e = absurd cc
    by go false e = ap (λ (qs : Pairs). p ∷ qs) (go e)

pub made : (key : List ℕ) (pairs : Pairs) → element key pairs ≡ None → created key pairs ≡ stored key Uninit pairs
made key pairs h = ap (λ o. created_by o key pairs) (got key pairs ∙ h) ∙ sym (last key Uninit pairs h)

pub there : (key : List ℕ) (v : Value) (pairs : Pairs) → element key pairs ≡ Some v → created key pairs ≡ pairs
there key v pairs h = ap (λ o. created_by o key pairs) (got key pairs ∙ h)

-- the number of a field

abbrev pub checked : Number → ℤ → Result Number Fault
checked n z = if is_field_number z then Ok n else Err FieldNumber

no_zero : (k : ℕ) → (suc k == 0) ≡ false
no_zero k = elim (cases_Bool (suc k == 0)) [ inl e ↦ absurd (let h = eqb-true (suc k) 0 e in omega (arith, h)) | inr e ↦ e ]

abbrev Refused : Fault → Result ℕ Fault
Refused fault = Err fault

same_fault : (f g : Fault) → Refused f ≡ Refused g → f ≡ g
same_fault f g e = cc

pub taken_by : (n : Number) (z : ℤ) (k : ℕ) → field_number z ≡ Ok k → checked n z ≡ Ok n
taken_by n (pos m) k e = by (nat_le m (2 ^ 20)) e
  where
    by : (b : Bool) → (if b then Ok m else Err FieldNumber) ≡ Ok k → (if b then Ok n else Err FieldNumber) ≡ Ok n
    by true h = refl
    by false h = absurd cc
taken_by n (negsuc m) k e = absurd cc

pub refused_by : (n : Number) (z : ℤ) (fault : Fault) → field_number z ≡ Err fault → checked n z ≡ Err fault
refused_by n (pos m) fault e = by (nat_le m (2 ^ 20)) e
  where
    by : (b : Bool) → (if b then Ok m else Err FieldNumber) ≡ Err fault → (if b then Ok n else Err FieldNumber) ≡ Err fault
    by true h = absurd cc
    by false h = ap (λ f. Err f) (same_fault FieldNumber fault h)
refused_by n (negsuc m) fault e = ap (λ b. if b then Ok n else Err FieldNumber) (no_zero m) ∙ ap (λ f. Err f) (same_fault FieldNumber fault e)
