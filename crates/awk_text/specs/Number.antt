-- The value of a number text.
use Rattle.std.specs.Prelude.{min, ℕ, ◌+◌, ◌-◌, ◌*◌, ◌/◌, ◌%◌, ◌^◌, Bool, false, not, ◌==◌, nat_le, if◌then◌else◌, Option, Some, None, Result, Ok, Err, List, [], ◌∷◌, ◌++◌, length, ℤ, pos, neg_ℤ}
use Rattle.awk_text.specs.Bytes.{digit_zero}
use Rattle.awk_text.specs.Reading.{Numeral, numeral_at, count_while, is_space}
use Rattle.awk_text.specs.declared.number.NumberFault.{NumberFault}
use Rattle.awk_text.specs.declared.number.NumberFault.TheVariants.{Range, Fraction}

-- The greatest number. POSIX knows none: a number there is a floating one. Here numbers are the whole ones from -2^53 to 2^53, both included.
abbrev pub largest : ℕ
largest = 2 ^ 53

-- the number that digits go on from a
abbrev pub value_after : ℕ → List ℕ → ℕ
value_after a [] = a
value_after a (c ∷ cs) = value_after (a * 10 + (c - digit_zero)) cs

-- the digits without the point
abbrev pub mantissa : Numeral → ℕ
mantissa n = value_after 0 (n.whole ++ n.fraction)

abbrev pub scale : Numeral → ℕ
scale n = value_after 0 n.exponent

-- The magnitude is numerator / denominator: m * 10 ^ x over 10 ^ d, or m over 10 ^ (d - x) where x is below 0.
unfoldable pub numerator : Numeral → ℕ
numerator n = if n.exponent_negative then mantissa n else mantissa n * 10 ^ scale n

unfoldable pub denominator : Numeral → ℕ
denominator n = if n.exponent_negative then 10 ^ (length n.fraction + scale n) else 10 ^ length n.fraction

abbrev pub signed : Bool → ℕ → ℤ
signed negative n = if negative then neg_ℤ (pos n) else pos n

abbrev pub ranged : Bool → ℕ → Result ℤ NumberFault
ranged negative n = if nat_le n largest then Ok (signed negative n) else Err Range

abbrev pub truncated_value : Numeral → Result ℤ NumberFault
truncated_value n = ranged n.negative (numerator n / denominator n)

abbrev pub whole_value : Numeral → Result ℤ NumberFault
whole_value n = if (numerator n % denominator n) == 0 then truncated_value n else Err Fraction

abbrev pub of_front : (Numeral → Result ℤ NumberFault) → Option (Numeral × List ℕ) → Result ℤ NumberFault
of_front value None = Ok (pos 0)
of_front value (Some front) = value front.0

abbrev pub number_of_text : List ℕ → Result ℤ NumberFault
number_of_text text = of_front whole_value (numeral_at text)

abbrev pub truncated_of_text : List ℕ → Result ℤ NumberFault
truncated_of_text text = of_front truncated_value (numeral_at text)

abbrev pub ends_in_spaces : Option (Numeral × List ℕ) → Bool
ends_in_spaces None = false
ends_in_spaces (Some front) = count_while is_space front.1 == length front.1

abbrev pub looks_numeric_text : List ℕ → Bool
looks_numeric_text text = ends_in_spaces (numeral_at text)

-- whether a digit of the mantissa is not 0
abbrev pub has_nonzero_mantissa : Option (Numeral × List ℕ) → Bool
has_nonzero_mantissa None = false
has_nonzero_mantissa (Some front) = not (mantissa front.0 == 0)

abbrev pub is_nonzero_text : List ℕ → Bool
is_nonzero_text text = has_nonzero_mantissa (numeral_at text)

-- what the code keeps of a magnitude: past the range every one is alike
abbrev pub capped : ℕ → ℕ
capped n = min n (largest + 1)
