-- How the longest piece at the front is found.
use Rattle.std.specs.Prelude.{ℕ, zero, suc, Result, Ok, Err, ◌+◌, Bool, true, false, ◌&&◌, ◌||◌, ◌==◌, not, if◌then◌else◌, Option, Some, None, option_map, List, [], ◌∷◌, length, take, drop, take_while}
use Rattle.awk_tokens.specs.declared.token.Punctuator.{Punctuator as AnyPunctuator}
use Rattle.awk_tokens.specs.declared.token.TokenKind.TheVariants.{Number, Str, Ere}
use Rattle.awk_tokens.specs.declared.token.Piece.{Piece}
use Rattle.awk_tokens.specs.declared.token.Piece.TheVariants.{Blank, Newline, Token}
use Rattle.awk_tokens.specs.declared.token.TokenFault.{TokenFault}
use Rattle.awk_text.specs.Bytes.{tab, newline, space, quote, hash, point, slash, backslash}
use Rattle.awk_tokens.specs.Numbers.{is_digit, is_sign, is_exponent_mark, begins_digit}
use Rattle.awk_tokens.specs.Words.{entry, reserved_word_of}
use Rattle.awk_tokens.specs.Pieces.{starts_name, goes_on, on_line, punctuators, word_kind, mark_of}
use Rattle.awk_tokens.specs.Cutting.{Spelled, Context, start, divides, kept, after_kept, newlines, refusal, with_token}

-- how many of the first bytes pass
abbrev pub count_while : (ℕ → Bool) → List ℕ → ℕ
count_while p bytes = length (take_while p bytes)

abbrev pub digit_count : List ℕ → ℕ
digit_count bytes = count_while is_digit bytes

-- how many digits, if any
abbrev pub some_count : ℕ → Option ℕ
some_count zero = None
some_count (suc n) = Some (suc n)

-- how long the sign and digits at the front are
unfoldable pub scale_at : List ℕ → Option ℕ
scale_at [] = None
scale_at (c ∷ cs) = if is_sign c then option_map suc (some_count (digit_count cs)) else some_count (digit_count (c ∷ cs))

abbrev pub marked_length : Option ℕ → ℕ
marked_length None = 0
marked_length (Some n) = suc n

-- how long the exponent at the front is
unfoldable pub exponent_length : List ℕ → ℕ
exponent_length [] = 0
exponent_length (c ∷ cs) = if is_exponent_mark c then marked_length (scale_at cs) else 0

-- how long the digits and the exponent at the front are
abbrev pub digits_length : List ℕ → ℕ
digits_length bytes = digit_count bytes + exponent_length (drop (digit_count bytes) bytes)

-- how long the point, digits and exponent at the front are
unfoldable pub fraction_length : List ℕ → ℕ
fraction_length [] = 0
fraction_length (c ∷ cs) = if c == point then suc (digits_length cs) else exponent_length (c ∷ cs)

-- how much of a number stands after its first byte
unfoldable pub number_at : ℕ → List ℕ → Option ℕ
number_at c cs =
    if is_digit c then Some (digit_count cs + fraction_length (drop (digit_count cs) cs))
    else if c == point then (if begins_digit cs then Some (digits_length cs) else None)
    else None

-- how many bytes there are up to the closing q
unfoldable pub close_at : Bool → ℕ → Bool → List ℕ → Option ℕ
close_at newlines q escaped [] = None
close_at newlines q true (c ∷ cs) = if (c == newline) && not newlines then None else option_map suc (close_at newlines q false cs)
close_at newlines q false (c ∷ cs) =
    if c == q then Some 1
    else if c == newline then None
    else option_map suc (close_at newlines q (c == backslash) cs)

abbrev pub with_piece : Piece → Option ℕ → Option (Piece × ℕ)
with_piece p o = option_map (λ n. (p, n)) o

-- the punctuator at the front, by two bytes or one
abbrev pub shorter : Option AnyPunctuator → Option (Piece × ℕ)
shorter None = None
shorter (Some p) = Some (mark_of p, 0)

abbrev pub mark_by : Option AnyPunctuator → Option AnyPunctuator → Option (Piece × ℕ)
mark_by (Some p) _ = Some (mark_of p, 1)
mark_by None o = shorter o

unfoldable pub mark_at : ℕ → List ℕ → Option (Piece × ℕ)
mark_at c [] = shorter (entry (c ∷ []) punctuators)
mark_at c (d ∷ ds) = mark_by (entry (c ∷ d ∷ []) punctuators) (entry (c ∷ []) punctuators)

unfoldable pub joined_at : List ℕ → Option (Piece × ℕ)
joined_at [] = None
joined_at (c ∷ cs) = if c == newline then Some (Blank, 1) else None

unfoldable pub name_at : ℕ → List ℕ → Option (Piece × ℕ)
name_at c cs = Some (Token (word_kind (reserved_word_of (c ∷ take (count_while goes_on cs) cs))), count_while goes_on cs)

-- the longest piece that begins with this byte, and how many bytes of the next it takes
unfoldable pub front_at : Bool → ℕ → List ℕ → Option (Piece × ℕ)
front_at division c cs =
    if (c == space) || (c == tab) then Some (Blank, 0)
    else if c == backslash then joined_at cs
    else if c == newline then Some (Newline, 0)
    else if c == hash then Some (Blank, count_while on_line cs)
    else if starts_name c then name_at c cs
    else if is_digit c || (c == point) then with_piece (Token Number) (number_at c cs)
    else if c == quote then with_piece (Token Str) (close_at true quote false cs)
    else if (c == slash) && not division then with_piece (Token Ere) (close_at false slash false cs)
    else mark_at c cs

-- what is read from here: the first piece, and so on
abbrev pub from_front : (ℕ → Context → List ℕ → Result (List Spelled) TokenFault) → ℕ → Context → ℕ → List ℕ → Option (Piece × ℕ)
    → Result (List Spelled) TokenFault
from_front go line before c cs None = Err (refusal (divides before) line c)
from_front go line before c cs (Some x) =
    with_token (kept before (drop x.1 cs) (Some x.0)) line (c ∷ take x.1 cs)
    (go (line + newlines (c ∷ take x.1 cs)) (after_kept (kept before (drop x.1 cs) (Some x.0)) before) (drop x.1 cs))

unfoldable pub cut_at : ℕ → ℕ → Context → List ℕ → Result (List Spelled) TokenFault
cut_at n line before [] = Ok []
cut_at zero line before (c ∷ cs) = Ok []
cut_at (suc n) line before (c ∷ cs) = from_front (cut_at n) line before c cs (front_at (divides before) c cs)

-- the tokens of a script, before `;` are dropped and put
unfoldable pub raw_of : List ℕ → Result (List Spelled) TokenFault
raw_of script = cut_at (length script) 1 start script

abbrev pub front_of : Bool → List ℕ → Option (Piece × ℕ)
front_of division [] = None
front_of division (c ∷ cs) = front_at division c cs

abbrev pub name_of : List ℕ → Option (Piece × ℕ)
name_of [] = None
name_of (c ∷ cs) = name_at c cs

abbrev pub number_of : List ℕ → Option ℕ
number_of [] = None
number_of (c ∷ cs) = number_at c cs

abbrev pub punctuator_of : List ℕ → Option (Piece × ℕ)
punctuator_of [] = None
punctuator_of (c ∷ cs) = mark_at c cs
