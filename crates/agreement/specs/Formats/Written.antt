-- What a conversion writes (POSIX.1-2017 awk, "Formatted output"; XBD 5, "File Format Notation").
use Rattle.std.specs.Prelude.{◌≡◌, ◌⊎◌, ◌<◌, ◌≤◌, ◌+ℤ◌, ℕ, zero, suc, ◌+◌, ◌-◌, ◌%◌, ◌^◌, max, Bool, true, false, not, ◌&&◌, if◌then◌else◌, List, [], ◌∷◌, ◌++◌, length, replicate, codes, Option, Some, None, Ok, ℤ, pos, negsuc, unsigned_abs}
use Rattle.std.specs.Str.Parse.{AllDigits, digits_value}
use Rattle.awk_text.specs.Bytes.{space, hash, plus, minus, point, digit_zero}
use Rattle.awk_text.specs.Number.{largest, looks_numeric_text}
use Rattle.awk_values.specs.Values.{number_of_value, text_of_value, truncated_of_value}
use Rattle.awk_values.specs.declared.value.Value.{Value}
use Rattle.awk_values.specs.declared.value.Value.TheVariants.{Uninit, Num, Text, StrNum}
use Rattle.sem_primitives.specs.Formats.{Conversion, Specifier, Signed, Octal, Unsigned, LowerHex, UpperHex, Fixed, String, Char, has_flag}

abbrev pub BeginsWith : ℕ → List ℕ → Type 0
BeginsWith c [] = ⊥
BeginsWith c (d ∷ ds) = d ≡ c

-- letters are upper or lower case
abbrev pub AreInCase : Bool → List ℕ → Type 0
AreInCase upper [] = Unit {0}
AreInCase true (c ∷ cs) = (c < 97) × AreInCase true cs
AreInCase false (c ∷ cs) = ((c < 65) ⊎ (97 ≤ c)) × AreInCase false cs

-- The digits of n in a base, at least `least` of them. If there are more, the first is not 0.
pub record AreDigits (base : ℕ) (upper : Bool) (least n : ℕ) (text : List ℕ) : Type 0 where
  pub digits : AllDigits base text
  pub case : AreInCase upper text
  pub value : digits_value base text ≡ n
  pub many : least ≤ length text
  pub no_more : BeginsWith digit_zero text → length text ≤ least

-- Blanks fill the width: at the left end, or with the flag `-` at the right end.
pub record IsInWidth (d : Conversion) (inside text : List ℕ) : Type 0 where
  pub before : ℕ
  pub after : ℕ
  pub parts : text ≡ replicate before space ++ (inside ++ replicate after space)
  pub fills : length text ≡ max d.width (length inside)
  pub right : has_flag minus d ≡ false → after ≡ 0
  pub left : has_flag minus d ≡ true → before ≡ 0

-- zeros fill the width with the flag `0` and without `-`
abbrev pub zeros_fill : Conversion → Bool
zeros_fill d = has_flag digit_zero d && not (has_flag minus d)

-- the least number of digits: the precision; without one it is 1, or what the width leaves if zeros fill it
abbrev pub least_by : Conversion → ℕ → Option ℕ → ℕ
least_by d others (Some p) = p
least_by d others None = if zeros_fill d then max 1 (d.width - others) else 1

-- a number behind its sign or mark
pub record IsNumber (d : Conversion) (base : ℕ) (upper : Bool) (first : List ℕ) (n : ℕ) (text : List ℕ) : Type 0 where
  pub digits : List ℕ
  pub are : AreDigits base upper (least_by d (length first) d.precision) n digits
  pub placed : IsInWidth d (first ++ digits) text

-- a minus below 0; else a plus with the flag `+`, or a blank with the flag blank
pub data IsSign (d : Conversion) : ℤ → List ℕ → Type 0 where
  negative : {n : ℕ} → IsSign d (negsuc n) (codes "-")
  positive : {n : ℕ} → has_flag plus d ≡ true → IsSign d (pos n) (codes "+")
  blank : {n : ℕ} → has_flag plus d ≡ false → has_flag space d ≡ true → IsSign d (pos n) (codes " ")
  none : {n : ℕ} → has_flag plus d ≡ false → has_flag space d ≡ false → IsSign d (pos n) []

-- a number modulo 2^64
abbrev pub IsUnsigned : ℤ → ℕ → Type 0
IsUnsigned z n = (n < 2 ^ 64) × ((z ≡ pos n) ⊎ (z +ℤ pos (2 ^ 64) ≡ pos n))

-- the mark of a hexadecimal number: with the flag `#`, if it is not 0
pub data IsMark (d : Conversion) (mark : List ℕ) : ℕ → List ℕ → Type 0 where
  marked : {n : ℕ} → has_flag hash d ≡ true → 0 < n → IsMark d mark n mark
  of_zero : IsMark d mark 0 []
  without : {n : ℕ} → has_flag hash d ≡ false → IsMark d mark n []

-- With the flag `#` octal digits begin with a 0. A second one comes only if the least number of digits asks for it.
pub record AreMarked (least n : ℕ) (text : List ℕ) : Type 0 where
  pub digits : AllDigits 8 text
  pub value : digits_value 8 text ≡ n
  pub many : least ≤ length text
  pub begins : BeginsWith digit_zero text
  pub no_more : (rest : List ℕ) → text ≡ digit_zero ∷ rest → BeginsWith digit_zero rest → length text ≤ least

-- after a whole number: a point and zeros, six without a precision; without zeros the point stands only with the flag `#`
abbrev pub fraction : Conversion → Option ℕ → List ℕ
fraction d None = codes ".000000"
fraction d (Some zero) = if has_flag hash d then codes "." else []
fraction d (Some (suc p)) = point ∷ replicate (suc p) digit_zero

-- at most as many bytes of a text as the precision says
pub data IsCut : Option ℕ → (text cut : List ℕ) → Type 0 where
  whole : {text : List ℕ} → IsCut None text text
  short : {p : ℕ} {text : List ℕ} → length text ≤ p → IsCut (Some p) text text
  first : {text : List ℕ} (rest : List ℕ) → IsCut (Some (length text)) (text ++ rest) text

-- a number is the byte of that value; of another text the first byte counts, if there is one
abbrev pub first_byte : List ℕ → List ℕ
first_byte [] = []
first_byte (c ∷ cs) = c ∷ []

pub data IsByte : Value → List ℕ → Type 0 where
  nothing : IsByte Uninit []
  of_number : {v : Value} {z : ℤ} {n : ℕ} → truncated_of_value v ≡ Ok z → IsUnsigned z n → IsByte v ((n % 256) ∷ [])
  of_text : {text : List ℕ} → IsByte (Text text) (first_byte text)
  of_other : {text : List ℕ} → looks_numeric_text text ≡ false → IsByte (StrNum text) (first_byte text)

pub data IsWritten (d : Conversion) : Specifier → Value → List ℕ → Type 0 where
  signed : {v : Value} {z : ℤ} {sign text : List ℕ} → truncated_of_value v ≡ Ok z → IsSign d z sign
      → IsNumber d 10 false sign (unsigned_abs z) text → IsWritten d Signed v text
  unsigned : {v : Value} {z : ℤ} {n : ℕ} {text : List ℕ} → truncated_of_value v ≡ Ok z → IsUnsigned z n
      → IsNumber d 10 false [] n text → IsWritten d Unsigned v text
  octal : {v : Value} {z : ℤ} {n : ℕ} {text : List ℕ} → truncated_of_value v ≡ Ok z → IsUnsigned z n
      → has_flag hash d ≡ false → IsNumber d 8 false [] n text → IsWritten d Octal v text
  marked_octal : {v : Value} {z : ℤ} {n : ℕ} {text : List ℕ} (digits : List ℕ) → truncated_of_value v ≡ Ok z → IsUnsigned z n
      → has_flag hash d ≡ true → AreMarked (least_by d 0 d.precision) n digits → IsInWidth d digits text → IsWritten d Octal v text
  lower_hex : {v : Value} {z : ℤ} {n : ℕ} {mark text : List ℕ} → truncated_of_value v ≡ Ok z → IsUnsigned z n
      → IsMark d (codes "0x") n mark → IsNumber d 16 false mark n text → IsWritten d LowerHex v text
  upper_hex : {v : Value} {z : ℤ} {n : ℕ} {mark text : List ℕ} → truncated_of_value v ≡ Ok z → IsUnsigned z n
      → IsMark d (codes "0X") n mark → IsNumber d 16 true mark n text → IsWritten d UpperHex v text
  fixed : {v : Value} {z : ℤ} {sign text : List ℕ} (digits : List ℕ) → number_of_value v ≡ Ok z → IsSign d z sign
      → AreDigits 10 false (least_by d (length sign + length (fraction d d.precision)) None) (unsigned_abs z) digits
      → IsInWidth d (sign ++ (digits ++ fraction d d.precision)) text → IsWritten d Fixed v text
  text : {v : Value} {cut text : List ℕ} → IsCut d.precision (text_of_value v) cut → IsInWidth d cut text → IsWritten d String v text
  byte : {v : Value} {one text : List ℕ} → IsByte v one → IsInWidth d one text → IsWritten d Char v text

-- a number of a script is from -2^53 to 2^53
abbrev pub IsInRange : Value → Type 0
IsInRange (Num z) = unsigned_abs z ≤ largest
IsInRange v = Unit {0}
