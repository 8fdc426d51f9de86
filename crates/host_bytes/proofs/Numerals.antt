-- Digits that are still to be written.
use Rattle.std.proofs.Common.{◌≡◌, ℕ, zero, suc, ◌-◌, ◌/◌, ◌%◌, ◌<◌, ◌≤◌, Bool, false, List, [], ◌∷◌, drop, length, refl, ap, ◌∙◌, arith, eq-eqb}
use Rattle.std.specs.Prelude.{◌==◌, if◌then◌else◌}
use Rattle.std.specs.Fmt.{digit_glyph, digits, digits_onto}
use Rattle.std.proofs.lemmas.Bool.Decides.{nat_tests}
use Rattle.std.proofs.lemmas.List.{drop-set}
use Rattle.std.proofs.Math.ListN.{set}

-- at most so many digits of a number, before others
unfoldable pub left_digits : ℕ → ℕ → Bool → ℕ → List ℕ → List ℕ
left_digits k base upper n acc = digits_onto k base upper n acc

pub left_all : (base : ℕ) (upper : Bool) (n : ℕ) (acc : List ℕ) → acc ≡ [] → left_digits 64 base upper n acc ≡ digits base upper n
unfolding left_digits digits
left_all base upper n acc e = ap (λ ds. digits_onto 64 base upper n ds) e

not_zero : (n : ℕ) → (n ≡ 0 → ⊥) → (n == 0) ≡ false
not_zero n h = grind (arith, nat_tests)

pub left_last : (k base : ℕ) (upper : Bool) (n : ℕ) (acc : List ℕ) → 0 < k → n / base ≡ 0 → left_digits k base upper n acc ≡ digit_glyph upper (n % base) ∷ acc
unfolding left_digits
left_last zero base upper n acc h e = absurd (omega arith)
left_last (suc k) base upper n acc h e = ap (λ b. if b then digit_glyph upper (n % base) ∷ acc else digits_onto k base upper (n / base) (digit_glyph upper (n % base) ∷ acc)) (eq-eqb (n / base) 0 e)

pub left_step : (k base : ℕ) (upper : Bool) (n : ℕ) (acc : List ℕ) → 0 < k → (n / base ≡ 0 → ⊥) → left_digits k base upper n acc ≡ left_digits (k - 1) base upper (n / base) (digit_glyph upper (n % base) ∷ acc)
unfolding left_digits
left_step zero base upper n acc h e = absurd (omega arith)
left_step (suc k) base upper n acc h e =
    ap (λ b. if b then digit_glyph upper (n % base) ∷ acc else digits_onto k base upper (n / base) (digit_glyph upper (n % base) ∷ acc)) (not_zero (n / base) e)
    ∙ ap (λ (j : ℕ). digits_onto j base upper (n / base) (digit_glyph upper (n % base) ∷ acc)) {x = k} {y = suc k - 1} (omega arith)

pub left_none : (k base : ℕ) (upper : Bool) (n : ℕ) (acc : List ℕ) → k ≡ 0 → left_digits k base upper n acc ≡ acc
unfolding left_digits
left_none zero base upper n acc h = refl
left_none (suc k) base upper n acc h = absurd (omega arith)

-- a digit that was written
pub written : (room : List ℕ) (at d : ℕ) → 0 < at → at ≤ length room → drop (at - 1) (set room (at - 1) d) ≡ d ∷ drop at room
written room at d low high = drop-set room (at - 1) d (omega arith) ∙ ap (λ n. d ∷ drop n room) (omega arith)
