-- The type of a local, whose parameters and own locals stand apart.
use Rattle.std.proofs.Common.{◌≡◌, ℕ, zero, suc, ◌-◌, ◌<◌, ◌≤◌, List, [], ◌∷◌, ◌++◌, length, refl, ap, ◌∙◌, arith, inl, inr}
use Rattle.std.specs.Prelude.{slice_get, is_none, nat_le}
use Rattle.std.proofs.lemmas.Bool.{le-leb, lt-leb}
use Rattle.std.proofs.lemmas.Option.{slice_get_cases}
use Rattle.wasm_types.specs.declared.types.ValType.{ValType}

pub a_parameter : (xs ys : List ValType) (n : ℕ) → n < length xs → slice_get (xs ++ ys) n ≡ slice_get xs n
a_parameter [] ys n h = absurd (omega (arith, h))
a_parameter (x ∷ xs) ys zero h = refl
a_parameter (x ∷ xs) ys (suc n) h = a_parameter xs ys n (omega (arith, h))

pub an_own_one : (xs ys : List ValType) (n : ℕ) → length xs ≤ n → slice_get (xs ++ ys) n ≡ slice_get ys (n - length xs)
an_own_one [] ys n h = let same : n ≡ n - 0 = omega arith in ap (slice_get ys) same
an_own_one (x ∷ xs) ys zero h = absurd (omega (arith, h))
an_own_one (x ∷ xs) ys (suc n) h = let same : n - length xs ≡ suc n - suc (length xs) = omega arith in an_own_one xs ys n (omega (arith, h)) ∙ ap (slice_get ys) same

pub none_past : (ts : List ValType) (n : ℕ) → is_none (slice_get ts n) ≡ nat_le (length ts) n
none_past ts n = elim (slice_get_cases ts n).1 [
  | inl w ↦ rw (w.2, lt-leb (length ts) n w.1) refl
  | inr w ↦ rw (w.1, le-leb (length ts) n w.0) refl
]
