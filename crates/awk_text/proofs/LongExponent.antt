-- An exponent of any length: its power of ten is never computed.
use Rattle.std.proofs.Common.{◌≡◌, ◌*◌, ◌^◌, Some, Ok, [], pos, refl, sym, ◌∙◌, ap}
use Rattle.std.specs.Prelude.{codes, false}
use Rattle.std.proofs.Math.Nat.{zero-mul}
use Rattle.std.proofs.lemmas.Bool.{cond_both}
use Rattle.awk_text.specs.Reading.{Numeral, numeral_at, sign_at, fraction_at, exponent_at}
use Rattle.awk_text.specs.Number.{denominator, mantissa, number_of_text, numerator, of_front, ranged, scale, whole_value}
use Rattle.awk_text.proofs.Meaning.{whole_exact}

zero_numerator : (n : Numeral) → mantissa n ≡ 0 → numerator n ≡ 0
unfolding numerator
zero_numerator n e = cond_both n.exponent_negative (mantissa n) (mantissa n * 10 ^ scale n) (λ m. m ≡ 0) (λ _. e) (λ _. ap (λ m. m * 10 ^ scale n) e ∙ zero-mul (10 ^ scale n))

zero_value : (n : Numeral) → mantissa n ≡ 0 → whole_value n ≡ ranged n.negative 0
zero_value n e = whole_exact n 0 (zero-mul (denominator n) ∙ sym (zero_numerator n e))

abbrev long_zero : Numeral
long_zero = record { negative = false; whole = codes "0"; fraction = []; exponent_negative = false; exponent = codes "999999999999" }

read_long_zero : numeral_at (codes "0e999999999999") ≡ Some (long_zero, [])
unfolding numeral_at sign_at fraction_at exponent_at
read_long_zero = refl

pub zero_with_long_exponent : number_of_text (codes "0e999999999999") ≡ Ok (pos 0)
zero_with_long_exponent = ap (of_front whole_value) read_long_zero ∙ zero_value long_zero refl
