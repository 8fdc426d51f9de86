-- Numbers of texts, and texts of strings, computed from the definitions.
use Rattle.std.specs.Prelude.{◌≡◌, ◌^◌, true, false, Ok, Err, pos, neg_ℤ, codes, [], ◌∷◌, refl}
use Rattle.awk_text.specs.Bytes.{tab, newline, carriage_return, space, quote, hash, percent, open_paren, plus, minus, point, slash, digit_zero, digit_seven, digit_nine, equals, upper_a, upper_e, upper_x, upper_z, backslash, underscore, lower_a, lower_b, lower_c, lower_d, lower_e, lower_f, lower_i, lower_n, lower_o, lower_r, lower_s, lower_t, lower_u, lower_v, lower_x, lower_z}
use Rattle.awk_text.specs.Reading.{numeral_at, sign_at, fraction_at, exponent_at}
use Rattle.awk_text.specs.Number.{numerator, denominator, number_of_text, truncated_of_text, looks_numeric_text}
use Rattle.awk_text.specs.Escapes.{escaped, octal, string_text, unescaped}
use Rattle.awk_text.specs.declared.number.NumberFault.TheVariants.{Range, Fraction}

-- the bytes that are named
pub named_bytes : codes "\t\n\r \"#%(+-./079=AEXZ\\_abcdefinorstuvxz" ≡ tab ∷ newline ∷ carriage_return ∷ space ∷ quote ∷ hash ∷ percent
    ∷ open_paren ∷ plus ∷ minus ∷ point ∷ slash ∷ digit_zero ∷ digit_seven ∷ digit_nine ∷ equals ∷ upper_a ∷ upper_e ∷ upper_x ∷ upper_z
    ∷ backslash ∷ underscore ∷ lower_a ∷ lower_b ∷ lower_c ∷ lower_d ∷ lower_e ∷ lower_f ∷ lower_i ∷ lower_n ∷ lower_o ∷ lower_r ∷ lower_s
    ∷ lower_t ∷ lower_u ∷ lower_v ∷ lower_x ∷ lower_z ∷ []
named_bytes = refl

pub signed_with_exponent : number_of_text (codes " +1.50e1 x") ≡ Ok (pos 15)
unfolding numeral_at sign_at fraction_at exponent_at numerator denominator
signed_with_exponent = refl

pub more_behind : looks_numeric_text (codes " +1.50e1 x") ≡ false
unfolding numeral_at sign_at fraction_at exponent_at
more_behind = refl

pub spaces_behind : looks_numeric_text (codes " +1.50e1 \n") ≡ true
unfolding numeral_at sign_at fraction_at exponent_at
spaces_behind = refl

pub no_hexadecimal : number_of_text (codes "0x1A") ≡ Ok (pos 0)
unfolding numeral_at sign_at fraction_at exponent_at numerator denominator
no_hexadecimal = refl

pub tenth : number_of_text (codes "1e-1") ≡ Err Fraction
unfolding numeral_at sign_at fraction_at exponent_at numerator denominator
tenth = refl

pub too_large : number_of_text (codes "1e16") ≡ Err Range
unfolding numeral_at sign_at fraction_at exponent_at numerator denominator
too_large = refl

pub towards_zero : truncated_of_text (codes "-7.9") ≡ Ok (neg_ℤ (pos 7))
unfolding numeral_at sign_at fraction_at exponent_at numerator denominator
towards_zero = refl

pub mark_without_digits : number_of_text (codes "1e") ≡ Ok (pos 1)
unfolding numeral_at sign_at fraction_at exponent_at numerator denominator
mark_without_digits = refl

pub mark_and_sign_without_digits : number_of_text (codes "1e+") ≡ Ok (pos 1)
unfolding numeral_at sign_at fraction_at exponent_at numerator denominator
mark_and_sign_without_digits = refl

pub point_without_digits : number_of_text (codes ".") ≡ Ok (pos 0)
unfolding numeral_at sign_at fraction_at exponent_at numerator denominator
point_without_digits = refl

pub point_first : number_of_text (codes ".5e1") ≡ Ok (pos 5)
unfolding numeral_at sign_at fraction_at exponent_at numerator denominator
point_first = refl

pub point_last : number_of_text (codes "1.e2") ≡ Ok (pos 100)
unfolding numeral_at sign_at fraction_at exponent_at numerator denominator
point_last = refl

pub whole_by_exponent : number_of_text (codes "10e-1") ≡ Ok (pos 1)
unfolding numeral_at sign_at fraction_at exponent_at numerator denominator
whole_by_exponent = refl

pub zero_with_exponent : number_of_text (codes "0e999") ≡ Ok (pos 0)
unfolding numeral_at sign_at fraction_at exponent_at numerator denominator
zero_with_exponent = refl

pub largest : number_of_text (codes "9007199254740992") ≡ Ok (pos (2 ^ 53))
unfolding numeral_at sign_at fraction_at exponent_at numerator denominator
largest = refl

pub least : number_of_text (codes "-9007199254740992") ≡ Ok (neg_ℤ (pos (2 ^ 53)))
unfolding numeral_at sign_at fraction_at exponent_at numerator denominator
least = refl

pub past_largest : number_of_text (codes "9007199254740993") ≡ Err Range
unfolding numeral_at sign_at fraction_at exponent_at numerator denominator
past_largest = refl

pub fraction_before_range : number_of_text (codes "90071992547409930.5") ≡ Err Fraction
unfolding numeral_at sign_at fraction_at exponent_at numerator denominator
fraction_before_range = refl

pub range_of_truncated : truncated_of_text (codes "90071992547409930.5") ≡ Err Range
unfolding numeral_at sign_at fraction_at exponent_at numerator denominator
range_of_truncated = refl

pub truncated_into_range : truncated_of_text (codes "9007199254740992.5") ≡ Ok (pos (2 ^ 53))
unfolding numeral_at sign_at fraction_at exponent_at numerator denominator
truncated_into_range = refl

-- Texts of strings.

pub each_letter : unescaped (92 ∷ 34 ∷ 92 ∷ 47 ∷ 92 ∷ 92 ∷ 92 ∷ 97 ∷ 92 ∷ 98 ∷ 92 ∷ 102 ∷ 92 ∷ 110 ∷ 92 ∷ 114 ∷ 92 ∷ 116 ∷ 92 ∷ 118 ∷ []) ≡ 34 ∷ 47
    ∷ 92 ∷ 7 ∷ 8 ∷ 12 ∷ 10 ∷ 13 ∷ 9 ∷ 11 ∷ []
unfolding unescaped escaped octal
each_letter = refl

pub one_octal_digit : unescaped (92 ∷ 55 ∷ 120 ∷ []) ≡ 7 ∷ 120 ∷ []
unfolding unescaped escaped octal
one_octal_digit = refl

pub two_octal_digits : unescaped (92 ∷ 49 ∷ 50 ∷ 120 ∷ []) ≡ 10 ∷ 120 ∷ []
unfolding unescaped escaped octal
two_octal_digits = refl

pub three_octal_digits : unescaped (92 ∷ 49 ∷ 48 ∷ 49 ∷ []) ≡ 65 ∷ []
unfolding unescaped escaped octal
three_octal_digits = refl

pub no_fourth_octal_digit : unescaped (92 ∷ 49 ∷ 48 ∷ 49 ∷ 49 ∷ []) ≡ 65 ∷ 49 ∷ []
unfolding unescaped escaped octal
no_fourth_octal_digit = refl

pub octal_modulo_256 : unescaped (92 ∷ 52 ∷ 48 ∷ 48 ∷ 92 ∷ 55 ∷ 55 ∷ 55 ∷ []) ≡ 0 ∷ 255 ∷ []
unfolding unescaped escaped octal
octal_modulo_256 = refl

pub eight_is_no_octal_digit : unescaped (92 ∷ 49 ∷ 56 ∷ []) ≡ 1 ∷ 56 ∷ []
unfolding unescaped escaped octal
eight_is_no_octal_digit = refl

pub escape_behind_octal : unescaped (92 ∷ 49 ∷ 92 ∷ 110 ∷ []) ≡ 1 ∷ 10 ∷ []
unfolding unescaped escaped octal
escape_behind_octal = refl

pub newline_dropped : unescaped (97 ∷ 92 ∷ 10 ∷ 98 ∷ []) ≡ 97 ∷ 98 ∷ []
unfolding unescaped escaped octal
newline_dropped = refl

pub other_byte_keeps_backslash : unescaped (92 ∷ 113 ∷ 92 ∷ 46 ∷ []) ≡ 92 ∷ 113 ∷ 92 ∷ 46 ∷ []
unfolding unescaped escaped octal
other_byte_keeps_backslash = refl

pub last_backslash_kept : unescaped (97 ∷ 92 ∷ []) ≡ 97 ∷ 92 ∷ []
unfolding unescaped escaped octal
last_backslash_kept = refl

pub quoted_backslash : string_text (34 ∷ 92 ∷ 92 ∷ 34 ∷ []) ≡ 92 ∷ []
unfolding unescaped escaped octal
quoted_backslash = refl

pub empty_string : string_text (34 ∷ 34 ∷ []) ≡ []
unfolding unescaped escaped octal
empty_string = refl

pub quoted_text : string_text (34 ∷ 98 ∷ 92 ∷ 110 ∷ 34 ∷ []) ≡ 98 ∷ 10 ∷ []
unfolding unescaped escaped octal
quoted_text = refl
