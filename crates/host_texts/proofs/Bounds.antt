-- Bounds of a match.
use Rattle.std.proofs.Common.{◌<◌, ◌≤◌, ◌^◌, ℕ, IfSome, Option, Some, None, arith}

pub first_bounds : (n : ℕ) (found : Option (ℕ × ℕ)) → n < 2 ^ 63 → IfSome found (λ m. (0 ≤ m.0) × (m.0 ≤ m.1) × (m.1 ≤ n))
    → IfSome found (λ m. (m.0 ≤ m.1) × (m.1 < 2 ^ 63))
first_bounds n None less f = tt
first_bounds n (Some p) less (low, order, within) = (order, omega (arith, less, within))
