-- A count as a number.
use Rattle.std.proofs.Common.{◌≡◌, ◌<◌, ◌≤◌, ◌^◌, ℕ, ℤ, pos, nat_le, unsigned_abs, Bool, true, false, if◌then◌else◌, refl, ap, ◌∙◌, arith}
use Rattle.std.proofs.lemmas.Bool.Decides.{nat_tests}
use Rattle.sem_primitives.specs.Numbers.{number_by}
use Rattle.sem_primitives.specs.Texts.{counted, or_largest}

by_test : (z : ℤ) (b : Bool) (e : nat_le (unsigned_abs z) (2 ^ 53) ≡ b) → (or_largest (number_by z b e)).number ≡ (if b then z else pos (2 ^ 53))
by_test z true e = refl
by_test z false e = refl

counted_by : (n : ℕ) (b : Bool) → nat_le n (2 ^ 53) ≡ b → (counted n).number ≡ (if b then pos n else pos (2 ^ 53))
counted_by n b e = by_test (pos n) (nat_le n (2 ^ 53)) refl ∙ ap (λ c. if c then pos n else pos (2 ^ 53)) e

pub counted_within : (n : ℕ) → n ≤ 2 ^ 53 → (counted n).number ≡ pos n
counted_within n le = counted_by n true (grind (arith, nat_tests, le))

pub counted_past : (n : ℕ) → 2 ^ 53 < n → (counted n).number ≡ pos (2 ^ 53)
counted_past n less = counted_by n false (grind (nat_tests, arith, less))
