-- Rows of the equations.
use Rattle.std.proofs.Common.{◌≡◌, ◌⊎◌, inl, inr, ◌<◌, ◌≤◌, ℕ, zero, suc, ◌+◌, ◌/◌, ◌%◌, ◌^◌, List, [], ◌∷◌, get_or, refl, arith}
use Rattle.std.specs.Prelude.{pos, negsuc, neg_ℤ}
use Rattle.std.specs.Int.{w8}
use Rattle.agreement.specs.Integers.Arithmetic.{IsLeft, IsTwosComplement, IsDividedSigned, IsDividedDown}
use Rattle.agreement.specs.Integers.Bits.{IsRotatedLeft, HasLeadingZeros}
use Rattle.agreement.specs.Integers.Memory.{IsStoredAt}

wraps : IsLeft w8 300 44
wraps = record { below = omega arith; times = 1; equation = refl }

minus_one : IsTwosComplement w8 255 (negsuc 0)
minus_one = record { least = record { le = tt }; greatest = record { lt = tt }; same = inr refl }

-- -7 by 2 is -3, and leaves -1; it is not -4, which leaves 1
towards_zero : IsDividedSigned (neg_ℤ (pos 7)) (pos 2) (neg_ℤ (pos 3)) (neg_ℤ (pos 1))
towards_zero = record { equation = refl; below = omega arith; above_zero = λ h. absurd h.le; below_zero = λ h. record { le = tt } }

not_downwards : IsDividedSigned (neg_ℤ (pos 7)) (pos 2) (neg_ℤ (pos 4)) (pos 1) → ⊥
not_downwards d = (d.below_zero record { le = tt }).le

-- a shift by one bit gives -4
downwards : IsDividedDown (neg_ℤ (pos 7)) 2 (neg_ℤ (pos 4))
downwards = record { remainder = 1; equation = refl; below = omega arith }

turns : IsRotatedLeft w8 1 0x81 3
turns = record { high = 1; low = 1; low_below = omega arith; parts = refl; turned_parts = refl }

seven_zeros : HasLeadingZeros w8 1 7
seven_zeros = record { most = omega arith; below = omega arith; next = inr (omega arith) }

-- two bytes of 0x0102 after the first of four
abbrev nines : List ℕ
nines = 9 ∷ 9 ∷ 9 ∷ 9 ∷ []

abbrev with_two : List ℕ
with_two = 9 ∷ 2 ∷ 1 ∷ 9 ∷ []

places_bytes : IsStoredAt 1 2 0x0102 nines with_two
places_bytes = record { inside = omega arith; size = refl; bytes = bytes; others = others }
  where
    bytes : (i : ℕ) → i < 2 → get_or with_two (1 + i) 0 ≡ 0x0102 / 256 ^ i % 256
    bytes zero l = refl
    bytes (suc zero) l = refl
    bytes (suc (suc i)) l = absurd (omega arith)

    others : (i : ℕ) → (i < 1) ⊎ (1 + 2 ≤ i) → get_or with_two i 0 ≡ get_or nines i 0
    others zero l = refl
    others (suc zero) (inl l) = absurd (omega arith)
    others (suc zero) (inr l) = absurd (omega arith)
    others (suc (suc zero)) (inl l) = absurd (omega arith)
    others (suc (suc zero)) (inr l) = absurd (omega arith)
    others (suc (suc (suc i))) l = refl
