-- Items that are read in a loop.
use Rattle.std.proofs.Common.{◌≡◌, ℕ, suc, ◌+◌, ◌-◌, ◌<◌, ◌≤◌, Some, None, List, [], ◌∷◌, ◌++◌, refl, ap, arith, append_assoc}
use Rattle.std.proofs.lemmas.List.{append-nil}
use Rattle.wasm_types.specs.Leb128Texts.{and_then}
use Rattle.script_places.specs.Reading.{Read, items_at}

-- items that were read, and those that are read behind them
abbrev pub with_front : {A : Type 0} → List A → Read (List A) → Read (List A)
with_front front read = and_then read (λ y. Some (front ++ y.0, y.1))

pub from_none : {A : Type 0} (read : Read (List A)) → with_front [] read ≡ read
from_none None = refl
from_none (Some y) = refl

module _ {A : Type 0} (one : List ℕ → Read A) (front : List A) (i n : ℕ) (bytes : List ℕ) where
  pub one_more : (x : A) (rest : List ℕ) → i < n → one bytes ≡ Some (x, rest)
      → with_front (front ++ x ∷ []) (items_at one (n - (i + 1)) rest) ≡ with_front front (items_at one (n - i) bytes)
  one_more x rest lt e =
      let m : n - i ≡ suc (n - (i + 1)) = omega (arith, lt) in
      rw (m, e) (step (items_at one (n - (i + 1)) rest))
    where
      step : (r : Read (List A)) → with_front (front ++ x ∷ []) r ≡ with_front front (and_then r (λ y. Some (x ∷ y.0, y.1)))
      step None = refl
      step (Some y) = ap (λ (ys : List A). Some (ys, y.1)) (append_assoc front (x ∷ []) y.0)

  pub one_missed : i < n → one bytes ≡ None → with_front front (items_at one (n - i) bytes) ≡ None
  one_missed lt e =
      let m : n - i ≡ suc (n - (i + 1)) = omega (arith, lt) in
      rw (m, e) refl

  pub no_more : n ≤ i → with_front front (items_at one (n - i) bytes) ≡ Some (front, bytes)
  no_more le =
      let m : n - i ≡ 0 = omega (arith, le) in
      rw m (ap (λ (ys : List A). Some (ys, bytes)) (append-nil front))
