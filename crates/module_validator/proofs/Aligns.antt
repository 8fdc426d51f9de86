-- Alignments.
use Rattle.std.proofs.Common.{◌≡◌, ℕ, ◌^◌, ◌≤◌, false, arith}
use Rattle.std.specs.Prelude.{nat_le}
use Rattle.std.proofs.Math.Nat.{pow-le-pow_right}
use Rattle.std.proofs.lemmas.Bool.{false_from_ne_true, leb-true}

-- 2 to the power of 4 and more is past 8 bytes
pub aligned : (align bytes : ℕ) → bytes ≤ 8 → 4 ≤ align → nat_le (2 ^ align) bytes ≡ false
aligned align bytes few many = false_from_ne_true (nat_le (2 ^ align) bytes) (λ e.
    let fits : 2 ^ align ≤ bytes = leb-true (2 ^ align) bytes e in
    let more : 2 ^ 4 ≤ 2 ^ align = pow-le-pow_right (omega arith) many in
    absurd (omega arith))
