-- What conversions stand for, and their text in parts.
use Rattle.std.specs.Prelude.{Bool, ◌==◌, ℕ, ◌^◌, ℤ, min, List, [], ◌∷◌, ◌++◌, length, drop, take_while, Option, Some, None, false, true, codes, decimal, unsigned_abs}
use Rattle.std.specs.Fmt.{digits}
use Rattle.awk_text.specs.Reading.{digits_at}
use Rattle.sem_primitives.specs.Formats.{Conversion, Specifier, Signed, Octal, Unsigned, LowerHex, UpperHex, Fixed, String, Char, Piece, Ordinary, Converts, hex_mark, integer_text, is_flag, number_text, octal_mark, sign_of, unsigned, wide, with_precision, zeros}
use Rattle.host_bytes.specs.declared.conversion.Specifier.{Specifier as Letter}
use Rattle.host_bytes.specs.declared.conversion.Specifier.TheVariants as letters
use Rattle.host_bytes.specs.declared.conversion.Whole.{Whole}
use Rattle.host_bytes.specs.declared.conversion.Whole.TheVariants as wholes
use Rattle.host_bytes.specs.declared.conversion.Conversion.{Conversion as Read}
use Rattle.host_bytes.specs.declared.conversion.Directive.{Directive}
use Rattle.host_bytes.specs.declared.conversion.Directive.TheVariants as directives
use Rattle.host_bytes.specs.declared.padding.Parts.{Parts}

abbrev pub specifier_is : Letter → Specifier
specifier_is (letters.Whole wholes.Signed) = Signed
specifier_is (letters.Whole wholes.Octal) = Octal
specifier_is (letters.Whole wholes.Unsigned) = Unsigned
specifier_is (letters.Whole wholes.LowerHex) = LowerHex
specifier_is (letters.Whole wholes.UpperHex) = UpperHex
specifier_is letters.Fixed = Fixed
specifier_is letters.Text = String
specifier_is letters.Char = Char

abbrev pub conversion_is : Read → Conversion
conversion_is d = record { flags = d.flags.now; width = d.width; precision = d.precision; specifier = specifier_is d.specifier }

-- a number cut to one past the greatest width
abbrev pub cut : ℕ → ℕ
cut n = min n (2 ^ 16)

-- the text of a whole number, whose bits are those of a signed one
abbrev pub whole_text : Conversion → Whole → ℤ → List ℕ
whole_text d wholes.Signed z = integer_text d (unsigned_abs z) (sign_of d z) (decimal (unsigned_abs z))
whole_text d wholes.Octal z = number_text d d.precision [] (octal_mark d (with_precision d.precision (unsigned z) (digits 8 false (unsigned z))))
whole_text d wholes.Unsigned z = integer_text d (unsigned z) [] (decimal (unsigned z))
whole_text d wholes.LowerHex z = integer_text d (unsigned z) (hex_mark d (unsigned z) (codes "0x")) (digits 16 false (unsigned z))
whole_text d wholes.UpperHex z = integer_text d (unsigned z) (hex_mark d (unsigned z) (codes "0X")) (digits 16 true (unsigned z))

-- the conversion that a text begins with, behind its percent sign
abbrev pub wide_at : List ℕ → Piece × List ℕ
wide_at text = wide (take_while is_flag text) (digits_at (drop (length (take_while is_flag text)) text))

abbrev pub piece_is : Directive → Piece
piece_is directives.Percent = Ordinary 37
piece_is (directives.Converts d) = Converts (conversion_is d)

abbrev pub begins_with_zero : List ℕ → Bool
begins_with_zero [] = false
begins_with_zero (c ∷ cs) = c == 48

-- a point and zeros, or nothing
abbrev pub places_text : Option ℕ → List ℕ
places_text None = []
places_text (Some n) = 46 ∷ zeros n

-- the digits, with zeros before them and places after them
abbrev pub body_text : Parts → List ℕ
body_text p = zeros p.zeros ++ (p.digits.now ++ places_text p.places)

abbrev pub parts_text : Parts → List ℕ
parts_text p = p.front.now ++ body_text p
