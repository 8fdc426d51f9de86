-- Formatted text (POSIX.1-2017 awk, "Output Statements", "Formatted output"; XBD 5), in whole numbers.
use Rattle.std.specs.Prelude.{ℕ, zero, suc, ◌+◌, ◌-◌, ◌%◌, ◌^◌, ◌==◌, ◌||◌, ◌&&◌, not, nat_le, nat_lt, Bool, true, false, if◌then◌else◌, List, [], ◌∷◌, ◌++◌, length, take, drop, take_while, replicate, codes, Option, Some, None, Result, Ok, Err, ℤ, pos, negsuc, unsigned_abs, decimal}
use Rattle.std.specs.Fmt.{digits}
use Rattle.std.specs.Int.{w64, cast_unsigned}
use Rattle.awk_text.specs.Bytes.{space, hash, percent, plus, minus, point, digit_zero, upper_x, lower_c, lower_d, lower_f, lower_i, lower_o, lower_s, lower_u, lower_x}
use Rattle.awk_text.specs.Reading.{digits_at}
use Rattle.awk_text.specs.Number.{value_after, looks_numeric_text}
use Rattle.awk_values.specs.Values.{number_of_value, text_of_value, truncated_of_value}
use Rattle.awk_values.specs.declared.fault.Fault.{Fault}
use Rattle.awk_values.specs.declared.fault.Fault.TheVariants.{Format, TextLimit}
use Rattle.awk_values.specs.declared.value.Value.{Value}
use Rattle.awk_values.specs.declared.value.Value.TheVariants.{Uninit, Num, Text, StrNum}
use Rattle.sem_primitives.specs.Limits.{most_text}
use Rattle.sem_primitives.specs.SharedState.{◌>>=◌}
use Rattle.sem_primitives.specs.Texts.{has}

-- what the specifier of a conversion asks for
pub data Specifier : Type 0 where
  Signed Octal Unsigned LowerHex UpperHex Fixed String Char : Specifier

pub record Conversion : Type 0 where
  pub flags : List ℕ
  pub width : ℕ
  pub precision : Option ℕ
  pub specifier : Specifier

-- a byte of the format that stands for itself, a conversion, or what is none
pub data Piece : Type 0 where
  Ordinary : ℕ → Piece
  Converts : Conversion → Piece
  Malformed : Piece

-- Reading a format.

-- the five flags
abbrev pub is_flag : ℕ → Bool
is_flag c = (c == minus) || ((c == plus) || ((c == space) || ((c == hash) || (c == digit_zero))))

-- `d` and `i`, `o`, `u`, `x`, `X`, `f`, `s`, `c`
abbrev pub specifier_of : ℕ → Option Specifier
specifier_of c =
    if (c == lower_d) || (c == lower_i) then Some Signed else if c == lower_o then Some Octal else if c == lower_u then Some Unsigned else
    if c == lower_x then Some LowerHex else if c == upper_x then Some UpperHex else if c == lower_f then Some Fixed else
    if c == lower_s then Some String else if c == lower_c then Some Char else None

-- what the point and its digits say, and what follows them
abbrev pub precision_at : List ℕ → Option ℕ × List ℕ
precision_at [] = (None, [])
precision_at (c ∷ cs) = if c == point then (Some (value_after 0 (digits_at cs).0), (digits_at cs).1) else (None, c ∷ cs)

-- a width and a precision are at most 65,535
abbrev pub is_narrow : Option ℕ → Bool
is_narrow None = true
is_narrow (Some n) = nat_lt n (2 ^ 16)

abbrev pub conversion : List ℕ → ℕ → Option ℕ → Option Specifier → Piece
conversion flags width precision None = Malformed
conversion flags width precision (Some specifier) =
    if is_narrow (Some width) && is_narrow precision
    then Converts (record { flags = flags; width = width; precision = precision; specifier = specifier })
    else Malformed

abbrev pub specified : List ℕ → ℕ → Option ℕ → List ℕ → Piece × List ℕ
specified flags width precision [] = (Malformed, [])
specified flags width precision (c ∷ cs) = (conversion flags width precision (specifier_of c), cs)

abbrev pub precise : List ℕ → ℕ → Option ℕ × List ℕ → Piece × List ℕ
precise flags width x = specified flags width x.0 x.1

abbrev pub wide : List ℕ → List ℕ × List ℕ → Piece × List ℕ
wide flags x = precise flags (value_after 0 x.0) (precision_at x.1)

-- after a percent sign: another one stands for a percent sign
abbrev pub conversion_at : List ℕ → Piece × List ℕ
conversion_at [] = (Malformed, [])
conversion_at (c ∷ cs) = if c == percent then (Ordinary percent, cs)
    else wide (take_while is_flag (c ∷ cs)) (digits_at (drop (length (take_while is_flag (c ∷ cs))) (c ∷ cs)))

abbrev pub piece_at : ℕ → List ℕ → Piece × List ℕ
piece_at c cs = if c == percent then conversion_at cs else (Ordinary c, cs)

-- the pieces of a format, at most n of them
abbrev pub pieces_from : ℕ → List ℕ → List Piece
pieces_from zero format = []
pieces_from (suc n) [] = []
pieces_from (suc n) (c ∷ cs) = let x = piece_at c cs in x.0 ∷ pieces_from n x.1

abbrev pub pieces_of : List ℕ → List Piece
pieces_of format = pieces_from (length format) format

-- Writing a number.

abbrev pub has_flag : ℕ → Conversion → Bool
has_flag c d = has c d.flags

abbrev pub zeros : ℕ → List ℕ
zeros n = replicate n digit_zero

abbrev pub blanks : ℕ → List ℕ
blanks n = replicate n space

-- zeros before a text up to a width
abbrev pub filled : ℕ → List ℕ → List ℕ
filled width text = zeros (width - length text) ++ text

-- at the right end of its width, or with a minus at the left end
abbrev pub padded : Conversion → List ℕ → List ℕ
padded d text = if has_flag minus d then text ++ blanks (d.width - length text) else blanks (d.width - length text) ++ text

-- zeros go between the sign and the digits
abbrev pub zero_filled : Bool → Conversion → List ℕ → List ℕ → List ℕ
zero_filled true d sign digits = sign ++ filled (d.width - length sign) digits
zero_filled false d sign digits = sign ++ digits

-- the flag `0` counts where no minus stands, nor a precision
abbrev pub is_zero_filled : Conversion → Option ℕ → Bool
is_zero_filled d None = has_flag digit_zero d && not (has_flag minus d)
is_zero_filled d (Some p) = false

-- the least count of digits; 0 with a count of 0 has none
abbrev pub with_precision : Option ℕ → ℕ → List ℕ → List ℕ
with_precision None n digits = digits
with_precision (Some p) n digits = if (p == 0) && (n == 0) then [] else filled p digits

-- a plus beats a blank
abbrev pub sign_of : Conversion → ℤ → List ℕ
sign_of d (negsuc n) = minus ∷ []
sign_of d (pos n) = if has_flag plus d then plus ∷ [] else if has_flag space d then space ∷ [] else []

abbrev pub number_text : Conversion → Option ℕ → List ℕ → List ℕ → List ℕ
number_text d precision sign digits = padded d (zero_filled (is_zero_filled d precision) d sign digits)

abbrev pub integer_text : Conversion → ℕ → List ℕ → List ℕ → List ℕ
integer_text d n sign digits = number_text d d.precision sign (with_precision d.precision n digits)

-- the number sign puts a 0 before octal digits that do not begin with one
abbrev pub octal_mark : Conversion → List ℕ → List ℕ
octal_mark d [] = if has_flag hash d then digit_zero ∷ [] else []
octal_mark d (c ∷ cs) = if has_flag hash d && not (c == digit_zero) then digit_zero ∷ (c ∷ cs) else c ∷ cs

-- and `0x` before a number that is not 0
abbrev pub hex_mark : Conversion → ℕ → List ℕ → List ℕ
hex_mark d n mark = if has_flag hash d && not (n == 0) then mark else []

-- a point and as many zeros as the precision says; the number sign keeps the point
abbrev pub fraction_text : Conversion → Option ℕ → List ℕ
fraction_text d None = point ∷ zeros 6
fraction_text d (Some zero) = if has_flag hash d then point ∷ [] else []
fraction_text d (Some (suc p)) = point ∷ zeros (suc p)

-- the first bytes of a text
abbrev pub first_bytes : Option ℕ → List ℕ → List ℕ
first_bytes None text = text
first_bytes (Some p) text = take p text

-- modulo 2^64
abbrev pub unsigned : ℤ → ℕ
unsigned z = cast_unsigned w64 z

-- the byte of a number, or the first byte of a text
abbrev pub byte_of_number : Value → Result (List ℕ) Fault
byte_of_number v = truncated_of_value v >>= λ z. Ok ((unsigned z % 256) ∷ [])

abbrev pub char_of : Value → Result (List ℕ) Fault
char_of Uninit = Ok []
char_of (Num n) = byte_of_number (Num n)
char_of (Text text) = Ok (take 1 text)
char_of (StrNum text) = elim (looks_numeric_text text) [ true ↦ byte_of_number (StrNum text) | false ↦ Ok (take 1 text) ]

abbrev pub converted : Conversion → Specifier → Value → Result (List ℕ) Fault
converted d Signed v = truncated_of_value v >>= λ z. Ok (integer_text d (unsigned_abs z) (sign_of d z) (decimal (unsigned_abs z)))
converted d Octal v =
    truncated_of_value v >>= λ z. Ok (number_text d d.precision [] (octal_mark d (with_precision d.precision (unsigned z) (digits 8 false (unsigned z)))))
converted d Unsigned v = truncated_of_value v >>= λ z. Ok (integer_text d (unsigned z) [] (decimal (unsigned z)))
converted d LowerHex v = truncated_of_value v >>= λ z. Ok (integer_text d (unsigned z) (hex_mark d (unsigned z) (codes "0x")) (digits 16 false (unsigned z)))
converted d UpperHex v = truncated_of_value v >>= λ z. Ok (integer_text d (unsigned z) (hex_mark d (unsigned z) (codes "0X")) (digits 16 true (unsigned z)))
converted d Fixed v = number_of_value v >>= λ z. Ok (number_text d None (sign_of d z) (decimal (unsigned_abs z) ++ fraction_text d d.precision))
converted d String v = Ok (padded d (first_bytes d.precision (text_of_value v)))
converted d Char v = char_of v >>= λ text. Ok (padded d text)

-- Formatting: the faults come in the order of the format. So many bytes stand before.

abbrev pub sized : ℕ → List ℕ → Result ℕ Fault
sized before text = if nat_le (before + length text) most_text then Ok (before + length text) else Err TextLimit

abbrev pub then_text : ℕ → List ℕ → (ℕ → Result (List ℕ) Fault) → Result (List ℕ) Fault
then_text before text go = sized before text >>= λ n. go n >>= λ rest. Ok (text ++ rest)

abbrev pub formatted_from : ℕ → List Piece → List Value → Result (List ℕ) Fault
formatted_from before [] values = Ok []
formatted_from before (Ordinary c ∷ pieces) values = then_text before (c ∷ []) (λ n. formatted_from n pieces values)
formatted_from before (Converts d ∷ pieces) [] = Err Format
formatted_from before (Converts d ∷ pieces) (v ∷ values) = converted d d.specifier v >>= λ text. then_text before text (λ n. formatted_from n pieces values)
formatted_from before (Malformed ∷ pieces) values = Err Format

-- the text of a format and values; values that are left over do not count
abbrev pub formatted : List ℕ → List Value → Result (List ℕ) Fault
formatted format values = formatted_from 0 (pieces_of format) values
