-- Formatted text, computed.
use Rattle.std.specs.Prelude.{◌≡◌, [], ◌∷◌, codes, Ok, Err, pos, neg_ℤ, refl}
use Rattle.std.specs.Fmt.{digits}
use Rattle.awk_text.specs.Reading.{numeral_at, sign_at, fraction_at, exponent_at}
use Rattle.awk_text.specs.Number.{numerator, denominator}
use Rattle.awk_values.specs.declared.fault.Fault.TheVariants.{Format, Fraction, Range}
use Rattle.awk_values.specs.declared.value.Value.TheVariants as value
use Rattle.sem_primitives.specs.Formats.{formatted}

pub in_a_row : formatted (codes "%5d|%-4s|%04d|%x|%c|%.2f|%%")
    (value.Num (pos 42) ∷ value.Text (codes "ab") ∷ value.Num (neg_ℤ (pos 7)) ∷ value.Num (pos 255) ∷ value.Num (pos 65) ∷ value.Num (pos 3) ∷ [])
    ≡ Ok (codes "   42|ab  |-007|ff|A|3.00|%")
unfolding digits
in_a_row = refl

pub argument_missing : formatted (codes "%d") [] ≡ Err Format
argument_missing = refl

pub arguments_left : formatted (codes "a") (value.Num (pos 1) ∷ []) ≡ Ok (codes "a")
arguments_left = refl

-- the conversion is read as a whole, and then its argument
pub width_too_great : formatted (codes "%99999f") (value.Text (codes "0.5") ∷ []) ≡ Err Format
width_too_great = refl

pub fault_in_order : formatted (codes "%f%q") (value.Text (codes "0.5") ∷ []) ≡ Err Fraction
unfolding numeral_at sign_at fraction_at exponent_at numerator denominator
fault_in_order = refl

pub no_letter : formatted (codes "%5") (value.Num (pos 1) ∷ []) ≡ Err Format
no_letter = refl

pub star : formatted (codes "%*d") (value.Num (pos 1) ∷ value.Num (pos 1) ∷ []) ≡ Err Format
star = refl

pub wide_percent : formatted (codes "%5%") [] ≡ Err Format
wide_percent = refl

pub truncated : formatted (codes "%d") (value.Text (codes "-7.9") ∷ []) ≡ Ok (codes "-7")
unfolding numeral_at sign_at fraction_at exponent_at numerator denominator digits
truncated = refl

pub out_of_range : formatted (codes "%d") (value.Text (codes "1e16") ∷ []) ≡ Err Range
unfolding numeral_at sign_at fraction_at exponent_at numerator denominator
out_of_range = refl

pub plus_beats_space : formatted (codes "%+ d|% d|%+u") (value.Num (pos 5) ∷ value.Num (pos 5) ∷ value.Num (pos 5) ∷ []) ≡ Ok (codes "+5| 5|5")
unfolding digits
plus_beats_space = refl

pub zero_of_no_digits : formatted (codes "[%.0d|%.d|%5.3d|%05.3d]") (value.Num (pos 0) ∷ value.Num (pos 0) ∷ value.Num (pos 7) ∷ value.Num (pos 7) ∷ [])
    ≡ Ok (codes "[||  007|  007]")
unfolding digits
zero_of_no_digits = refl

pub marks : formatted (codes "%#o|%#o|%#.0o|%#x|%#X|%#x|%#08x")
    (value.Num (pos 8) ∷ value.Num (pos 0) ∷ value.Num (pos 0) ∷ value.Num (pos 255) ∷ value.Num (pos 255) ∷ value.Num (pos 0) ∷ value.Num (pos 255) ∷ [])
    ≡ Ok (codes "010|0|0|0xff|0XFF|0|0x0000ff")
unfolding digits
marks = refl

pub modulo : formatted (codes "%u|%x|%o") (value.Num (neg_ℤ (pos 1)) ∷ value.Num (neg_ℤ (pos 1)) ∷ value.Num (neg_ℤ (pos 1)) ∷ [])
    ≡ Ok (codes "18446744073709551615|ffffffffffffffff|1777777777777777777777")
unfolding digits
modulo = refl

pub fractions : formatted (codes "%f|%.0f|%#.0f|%08.2f|%-8.1f|%+.1f")
    (value.Num (pos 3) ∷ value.Num (pos 3) ∷ value.Num (pos 3) ∷ value.Num (neg_ℤ (pos 3)) ∷ value.Num (pos 3) ∷ value.Num (pos 3) ∷ [])
    ≡ Ok (codes "3.000000|3|3.|-0003.00|3.0     |+3.0")
unfolding digits
fractions = refl

pub cut_texts : formatted (codes "%.2s|%5.1s|%-3s|%05s")
    (value.Text (codes "abc") ∷ value.Text (codes "abc") ∷ value.Text (codes "a") ∷ value.Text (codes "a") ∷ []) ≡ Ok (codes "ab|    a|a  |    a")
cut_texts = refl

pub bytes : formatted (codes "%c%c%c%c[%c%3c]")
    (value.Num (pos 321) ∷ value.StrNum (codes "65.9") ∷ value.Text (codes "65") ∷ value.Num (neg_ℤ (pos 191)) ∷ value.Uninit ∷ value.Text [] ∷ [])
    ≡ Ok (codes "AA6A[   ]")
unfolding numeral_at sign_at fraction_at exponent_at numerator denominator
bytes = refl
