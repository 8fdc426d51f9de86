-- A power is in range where there is one, so that its answer needs no test.
use Rattle.std.proofs.Common.{◌≡◌, ℕ, suc, ◌%◌, ℤ, pos, negsuc, Bool, true, false, Ok, Err, refl, sym, ap, ◌∙◌, cond, arith}
use Rattle.std.specs.Prelude.{◌==◌, nat_le, unsigned_abs}
use Rattle.std.specs.Int.{int_pow}
use Rattle.std.proofs.lemmas.Bool.{eqb-true, eqb-false}
use Rattle.awk_text.specs.Number.{largest}
use Rattle.awk_values.specs.Operators.{Outcome, checked, inverse_power, is_zero, power}
use Rattle.awk_values.specs.declared.fault.Fault.TheVariants.{DivisionByZero, Inexact, Range}
use Rattle.awk_values.proofs.Powers.{even_power, odd_power, power_of_one}
use Rattle.host_values.specs.ValueEvaluations.{number_reply, outcome_reply}

checked_twice : (z : ℤ) → number_reply (checked z) ≡ outcome_reply (checked z)
checked_twice z = by (nat_le (unsigned_abs z) largest) refl
  where
    by : (b : Bool) → nat_le (unsigned_abs z) largest ≡ b → number_reply (cond b (Ok z) (Err Range)) ≡ outcome_reply (cond b (Ok z) (Err Range))
    by true e = ap (λ (x : Bool). outcome_reply (cond x (Ok z) (Err Range))) e
    by false e = refl

unit_checked : (a : ℤ) (e : ℕ) → unsigned_abs a ≡ 1 → checked (int_pow a e) ≡ Ok (int_pow a e)
unit_checked (pos n) e is = let one = power_of_one (pos n) e (ap pos is) in ap checked (sym one) ∙ ap (λ (z : ℤ). Ok z) one
unit_checked (negsuc n) e is = by (e % 2 == 0) refl
  where
    minus : negsuc n ≡ negsuc 0
    minus = ap negsuc (omega (arith, is))

    by : (b : Bool) → (e % 2 == 0) ≡ b → checked (int_pow (negsuc n) e) ≡ Ok (int_pow (negsuc n) e)
    by true q = let one = even_power (negsuc n) e minus (eqb-true _ 0 q) in ap checked (sym one) ∙ ap (λ (z : ℤ). Ok z) one
    by false q = let one = odd_power (negsuc n) e minus (eqb-false _ 0 q) in ap checked (sym one) ∙ ap (λ (z : ℤ). Ok z) one

inverse_fits : (a : ℤ) (e : ℕ) → number_reply (inverse_power a e) ≡ outcome_reply (inverse_power a e)
inverse_fits a e = by (is_zero a) (unsigned_abs a == 1) refl
  where
    inner : Bool → Outcome
    inner b = cond b (Ok (int_pow a e)) (Err Inexact)

    by : (z b : Bool) → (unsigned_abs a == 1) ≡ b → number_reply (cond z (Err DivisionByZero) (inner b)) ≡ outcome_reply (cond z (Err DivisionByZero) (inner b))
    by true b q = refl
    by false true q = ap outcome_reply (unit_checked a e (eqb-true _ 1 q))
    by false false q = refl

pub power_fits : (a b : ℤ) → number_reply (power a b) ≡ outcome_reply (power a b)
power_fits a (pos e) = checked_twice (int_pow a e)
power_fits a (negsuc e) = inverse_fits a (suc e)
