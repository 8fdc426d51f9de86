-- Operators and comparisons, computed from their definitions.
use Rattle.std.specs.Prelude.{◌≡◌, ◌^◌, ◌-◌, true, false, Ok, Err, pos, neg_ℤ, codes, refl}
use Rattle.awk_text.specs.Reading.{numeral_at, sign_at, fraction_at, exponent_at}
use Rattle.awk_text.specs.Number.{numerator, denominator}
use Rattle.awk_values.specs.Operators.{power, product, quotient, remainder, sum, truncated_quotient}
use Rattle.awk_values.specs.Values.{truth_of_value}
use Rattle.awk_values.specs.Comparison.{comparison}
use Rattle.awk_values.specs.declared.comparison.CompareOp.TheVariants.{Less, Equal}
use Rattle.awk_values.specs.declared.fault.Fault.TheVariants.{DivisionByZero, Fraction, Inexact, Range}
use Rattle.awk_values.specs.declared.value.Value.TheVariants.{StrNum, Text}

pub largest_sum : sum (pos (2 ^ 53 - 1)) (pos 1) ≡ Ok (pos (2 ^ 53))
largest_sum = refl

pub sum_past_largest : sum (pos (2 ^ 53)) (pos 1) ≡ Err Range
sum_past_largest = refl

pub square_past_largest : product (pos (2 ^ 53)) (pos (2 ^ 53)) ≡ Err Range
square_past_largest = refl

pub halves : quotient (pos 7) (pos 2) ≡ Err Inexact
halves = refl

pub halves_truncated : truncated_quotient (neg_ℤ (pos 7)) (pos 2) ≡ Ok (neg_ℤ (pos 3))
halves_truncated = refl

pub sign_of_the_first : remainder (neg_ℤ (pos 7)) (pos 3) ≡ Ok (neg_ℤ (pos 1))
sign_of_the_first = refl

pub by_zero : remainder (pos 1) (pos 0) ≡ Err DivisionByZero
by_zero = refl

pub odd_inverse : power (neg_ℤ (pos 1)) (neg_ℤ (pos 3)) ≡ Ok (neg_ℤ (pos 1))
odd_inverse = refl

pub inverse_of_zero : power (pos 0) (neg_ℤ (pos 1)) ≡ Err DivisionByZero
inverse_of_zero = refl

pub inverse_of_two : power (pos 2) (neg_ℤ (pos 1)) ≡ Err Inexact
inverse_of_two = refl

pub texts_by_bytes : comparison (Text (codes "10")) (Text (codes "9")) Less ≡ Ok true
texts_by_bytes = refl

pub fields_by_number : comparison (StrNum (codes "10")) (StrNum (codes "9")) Less ≡ Ok false
unfolding numeral_at sign_at fraction_at exponent_at numerator denominator
fields_by_number = refl

pub fault_of_the_left : comparison (StrNum (codes "0.5")) (StrNum (codes "1e99")) Equal ≡ Err Fraction
unfolding numeral_at sign_at fraction_at exponent_at numerator denominator
fault_of_the_left = refl

pub zero_with_a_point : truth_of_value (StrNum (codes "0.0")) ≡ false
unfolding numeral_at sign_at fraction_at exponent_at numerator denominator
zero_with_a_point = refl
