-- Powers of 0, 1 and -1, and of what is larger.
use Rattle.std.proofs.Common.{◌≡◌, ℕ, zero, suc, ◌%◌, ◌^◌, ◌<◌, ◌≤◌, ℤ, pos, negsuc, refl, sym, ap, ◌∙◌, arith}
use Rattle.std.specs.Prelude.{◌==◌, Err, unsigned_abs, neg_ℤ}
use Rattle.std.specs.Int.{int_pow}
use Rattle.std.proofs.Math.Nat.{pow-suc, pow-le-pow_left, pow-le-pow_right}
use Rattle.std.proofs.lemmas.Bool.{cond-false, cond-true, cond_both, eq-eqb, ne_eqb, false_from_ne_true, leb-true}
use Rattle.awk_values.specs.Operators.{checked}
use Rattle.awk_values.specs.declared.fault.Fault.TheVariants.{Range}

pub one_power : (e : ℕ) → 1 ^ e ≡ 1
one_power zero = refl
one_power (suc e) = pow-suc 1 e ∙ omega (arith, one_power e)

pub zero_power : (e : ℕ) → 0 < e → 0 ^ e ≡ 0
zero_power zero h = absurd (omega arith)
zero_power (suc e) h = pow-suc 0 e ∙ omega arith

abs_power : (a : ℤ) (e : ℕ) → unsigned_abs (int_pow a e) ≡ unsigned_abs a ^ e
abs_power (pos a) e = refl
abs_power (negsuc a) e = cond_both (e % 2 == 0) (pos (suc a ^ e)) (neg_ℤ (pos (suc a ^ e))) (λ z. unsigned_abs z ≡ suc a ^ e) (λ _. refl) (λ _. abs_neg (suc a ^ e)) where
  abs_neg : (n : ℕ) → unsigned_abs (neg_ℤ (pos n)) ≡ n
  abs_neg zero = refl
  abs_neg (suc n) = refl

-- what is at least 2 is past the range from the exponent 54 on
pub large_power : (a : ℤ) (e : ℕ) → 2 ≤ unsigned_abs a → 54 ≤ e → Err Range ≡ checked (int_pow a e)
large_power a e base many = sym (cond-false _ _ _ (false_from_ne_true _ (λ h.
    let fits : unsigned_abs (int_pow a e) ≤ 2 ^ 53 = leb-true _ (2 ^ 53) h in
    let more : 2 ^ e ≤ unsigned_abs a ^ e = pow-le-pow_left base e in
    let most : 2 ^ 54 ≤ 2 ^ e = pow-le-pow_right (omega arith) many in
    let same = abs_power a e in
    absurd (omega arith))))

pub power_of_zero : (a : ℤ) (e : ℕ) → a ≡ pos 0 → (e ≡ 0 → ⊥) → pos 0 ≡ int_pow a e
power_of_zero a e is some = sym (ap (λ (z : ℤ). int_pow z e) is ∙ ap pos (zero_power e (omega arith)))

pub power_of_one : (a : ℤ) (e : ℕ) → a ≡ pos 1 → pos 1 ≡ int_pow a e
power_of_one a e is = sym (ap (λ (z : ℤ). int_pow z e) is ∙ ap pos (one_power e))

pub even_power : (a : ℤ) (e : ℕ) → a ≡ negsuc 0 → e % 2 ≡ 0 → pos 1 ≡ int_pow a e
even_power a e is even = sym (ap (λ (z : ℤ). int_pow z e) is ∙ cond-true (e % 2 == 0) _ _ (eq-eqb _ _ even) ∙ ap pos (one_power e))

pub odd_power : (a : ℤ) (e : ℕ) → a ≡ negsuc 0 → (e % 2 ≡ 0 → ⊥) → negsuc 0 ≡ int_pow a e
odd_power a e is odd = sym (ap (λ (z : ℤ). int_pow z e) is ∙ cond-false (e % 2 == 0) _ _ (ne_eqb _ 0 odd) ∙ ap (λ n. neg_ℤ (pos n)) (one_power e))
