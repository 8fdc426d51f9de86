-- Marks in a list.
use Rattle.std.proofs.Common.{◌≡◌, ℕ, zero, suc, ◌<◌, ◌+◌, Bool, true, false, IsTrue, replicate, List, [], ◌∷◌, length, refl, ap, sym, true≢false, arith, inl, inr, ◌⊎◌}
use Rattle.std.proofs.Math.ListN.{set}
use Rattle.std.proofs.lemmas.List.{get_or-set_same}
use Rattle.awk_resolve.specs.Marked.{is_marked, unmarked}

-- a new mark is one fewer that is not
pub unmarked_set : (ms : List Bool) (n : ℕ) → n < length ms → is_marked ms n ≡ false → unmarked (set ms n true) + 1 ≡ unmarked ms
unmarked_set [] n lt h = absurd (omega arith)
unmarked_set (true ∷ ms) zero lt h = absurd (true≢false h)
unmarked_set (false ∷ ms) zero lt h = omega arith
unmarked_set (true ∷ ms) (suc n) lt h = unmarked_set ms n (omega arith) h
unmarked_set (false ∷ ms) (suc n) lt h = let e = unmarked_set ms n (omega arith) h in omega (arith, e)

-- what is marked after a new mark
pub marked_set : (ms : List Bool) (n k : ℕ) → IsTrue (is_marked (set ms n true) k) → (k ≡ n) ⊎ IsTrue (is_marked ms k)
marked_set [] n k h = inr h
marked_set (m ∷ ms) zero zero h = inl refl
marked_set (m ∷ ms) zero (suc k) h = inr h
marked_set (m ∷ ms) (suc n) zero h = inr h
marked_set (m ∷ ms) (suc n) (suc k) h = by (marked_set ms n k h)
  where
    by : (k ≡ n) ⊎ IsTrue (is_marked ms k) → (suc k ≡ suc n) ⊎ IsTrue (is_marked ms k)
    by (inl e) = inl (ap suc e)
    by (inr i) = inr i

pub marked_grows : (ms : List Bool) (n k : ℕ) → IsTrue (is_marked ms k) → IsTrue (is_marked (set ms n true) k)
marked_grows [] n k h = h
marked_grows (m ∷ ms) zero zero h = refl
marked_grows (m ∷ ms) zero (suc k) h = h
marked_grows (m ∷ ms) (suc n) zero h = h
marked_grows (m ∷ ms) (suc n) (suc k) h = marked_grows ms n k h

pub marked_at : (ms : List Bool) (n : ℕ) → n < length ms → IsTrue (is_marked (set ms n true) n)
marked_at ms n lt = get_or-set_same ms n true false lt

pub none_marked : (count n : ℕ) → IsTrue (is_marked (replicate count false) n) → ⊥
none_marked zero n h = true≢false (sym h)
none_marked (suc c) zero h = true≢false (sym h)
none_marked (suc c) (suc n) h = none_marked c n h

pub marked_small : (ms : List Bool) (n : ℕ) → IsTrue (is_marked ms n) → n < length ms
marked_small [] n h = absurd (true≢false (sym h))
marked_small (m ∷ ms) zero h = omega arith
marked_small (m ∷ ms) (suc n) h = let e = marked_small ms n h in omega (arith, e)
