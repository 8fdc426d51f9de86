-- How a format reads: bytes that stand for themselves, and conversions (POSIX.1-2017 awk, "Formatted output"; XBD 5, "File Format Notation").
use Rattle.std.specs.Prelude.{◌≡◌, ◌≢◌, ◌⊎◌, ◌<◌, ℕ, ◌^◌, List, [], ◌∷◌, ◌++◌, codes, Option, Some, None, Ok}
use Rattle.std.specs.Str.Parse.{AllDigits, digits_value}
use Rattle.awk_text.specs.Bytes.{percent, point, digit_zero}
use Rattle.awk_values.specs.declared.value.Value.{Value}
use Rattle.sem_primitives.specs.Formats.{Conversion, Specifier, Signed, Octal, Unsigned, LowerHex, UpperHex, Fixed, String, Char, converted}

abbrev pub OneOf : ℕ → List ℕ → Type 0
OneOf c [] = ⊥
OneOf c (d ∷ ds) = (c ≡ d) ⊎ OneOf c ds

abbrev pub AreFlags : List ℕ → Type 0
AreFlags [] = Unit {0}
AreFlags (c ∷ cs) = OneOf c (codes "-+ #0") × AreFlags cs

-- a width is digits that do not begin with the flag `0`; no digits are width 0
pub record IsWidth (text : List ℕ) (width : ℕ) : Type 0 where
  pub digits : AllDigits 10 text
  pub value : width ≡ digits_value 10 text
  pub no_flag : (rest : List ℕ) → text ≢ digit_zero ∷ rest
  pub most : width < 2 ^ 16

-- a precision is a point and any number of digits
pub data IsPrecision : List ℕ → Option ℕ → Type 0 where
  no_precision : IsPrecision [] None
  precision : {digits : List ℕ} → AllDigits 10 digits → digits_value 10 digits < 2 ^ 16 → IsPrecision (point ∷ digits) (Some (digits_value 10 digits))

abbrev pub letters : Specifier → List ℕ
letters Signed = codes "di"
letters Octal = codes "o"
letters Unsigned = codes "u"
letters LowerHex = codes "x"
letters UpperHex = codes "X"
letters Fixed = codes "f"
letters String = codes "s"
letters Char = codes "c"

-- what follows the percent sign of a conversion
pub record IsConversion (text : List ℕ) (d : Conversion) : Type 0 where
  pub width_text : List ℕ
  pub precision_text : List ℕ
  pub letter : ℕ
  pub parts : text ≡ d.flags ++ (width_text ++ (precision_text ++ (letter ∷ [])))
  pub flags : AreFlags d.flags
  pub width : IsWidth width_text d.width
  pub precision : IsPrecision precision_text d.precision
  pub specifier : OneOf letter (letters d.specifier)

-- each conversion takes the next value; values that are left over do not count
pub data IsFormatted : (format : List ℕ) → List Value → (text : List ℕ) → Type 0 where
  ends : {values : List Value} → IsFormatted [] values []
  byte : {c : ℕ} {format text : List ℕ} {values : List Value} → c ≢ percent → IsFormatted format values text
      → IsFormatted (c ∷ format) values (c ∷ text)
  percent_sign : {format text : List ℕ} {values : List Value} → IsFormatted format values text
      → IsFormatted (percent ∷ percent ∷ format) values (percent ∷ text)
  conversion : {format text one : List ℕ} {v : Value} {values : List Value} {d : Conversion} (spec : List ℕ) → IsConversion spec d
      → converted d d.specifier v ≡ Ok one → IsFormatted format values text → IsFormatted (percent ∷ (spec ++ format)) (v ∷ values) (one ++ text)
