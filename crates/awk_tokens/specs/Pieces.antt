-- Which texts are pieces of a script: blanks, comments, newlines and tokens.
use Rattle.std.specs.Prelude.{ℕ, Bool, true, false, ◌&&◌, ◌||◌, ◌==◌, not, nat_le, if◌then◌else◌, Option, Some, None, option_map, List, [], ◌∷◌, length, codes}
use Rattle.std.specs.Cmp.Lexicographic.{pointwise}
use Rattle.awk_text.specs.Bytes.{tab, newline, space, quote, hash, point, slash, upper_a, upper_z, backslash, underscore, lower_a, lower_z}
use Rattle.awk_tokens.specs.Numbers.{is_digit, every, is_number}
use Rattle.awk_tokens.specs.Words.{entry, reserved_word_of}
use Rattle.awk_tokens.specs.declared.reserved_words.ReservedWord.{ReservedWord}
use Rattle.awk_tokens.specs.declared.reserved_words.ReservedWord.TheVariants.{Keyword as KeywordWord, Builtin as BuiltinWord, LeftOut as LeftOutWord}
use Rattle.awk_tokens.specs.declared.token.Punctuator.{Punctuator as AnyPunctuator}
use Rattle.awk_tokens.specs.declared.token.Punctuator.TheVariants.{OpenBrace, CloseBrace, OpenParen, CloseParen, OpenBracket, CloseBracket, Semicolon, Comma, Plus, Minus, Star, Slash, Percent, Caret, Bang, Greater, Less, Pipe, Question, Colon, Tilde, Dollar, Assign, PlusAssign, MinusAssign, StarAssign, SlashAssign, PercentAssign, CaretAssign, Equal, LessEqual, GreaterEqual, NotEqual, NotTilde, Increment, Decrement, And, Or, Append}
use Rattle.awk_tokens.specs.declared.token.TokenKind.{TokenKind}
use Rattle.awk_tokens.specs.declared.token.TokenKind.TheVariants.{Name, Number, Str, Ere, Keyword, Builtin, LeftOut, Punctuator}
use Rattle.awk_tokens.specs.declared.token.Piece.{Piece}
use Rattle.awk_tokens.specs.declared.token.Piece.TheVariants.{Blank, Newline, Token}

-- a letter or _
abbrev pub starts_name : ℕ → Bool
starts_name c = (nat_le upper_a c && nat_le c upper_z) || (nat_le lower_a c && nat_le c lower_z) || (c == underscore)

abbrev pub goes_on : ℕ → Bool
goes_on c = starts_name c || is_digit c

abbrev pub on_line : ℕ → Bool
on_line c = not (c == newline)

-- The text after an opening q: its one unescaped q is its last byte. A newline stands in it only after a
-- backslash, and only where `newlines` says so. `escaped` says whether a backslash that is not escaped stands before.
abbrev pub closes : Bool → ℕ → Bool → List ℕ → Bool
closes newlines q escaped [] = false
closes newlines q true (c ∷ cs) = if (c == newline) && not newlines then false else closes newlines q false cs
closes newlines q false (c ∷ cs) = if c == q then length cs == 0 else if c == newline then false else closes newlines q (c == backslash) cs

unfoldable pub punctuators : List (List ℕ × AnyPunctuator)
punctuators =
    (codes "{", OpenBrace) ∷ (codes "}", CloseBrace) ∷ (codes "(", OpenParen) ∷ (codes ")", CloseParen) ∷ (codes "[", OpenBracket)
    ∷ (codes "]", CloseBracket) ∷ (codes ";", Semicolon) ∷ (codes ",", Comma) ∷ (codes "+", Plus) ∷ (codes "-", Minus) ∷ (codes "*", Star)
    ∷ (codes "/", Slash) ∷ (codes "%", Percent) ∷ (codes "^", Caret) ∷ (codes "!", Bang) ∷ (codes ">", Greater) ∷ (codes "<", Less)
    ∷ (codes "|", Pipe) ∷ (codes "?", Question) ∷ (codes ":", Colon) ∷ (codes "~", Tilde) ∷ (codes "$", Dollar) ∷ (codes "=", Assign)
    ∷ (codes "+=", PlusAssign) ∷ (codes "-=", MinusAssign) ∷ (codes "*=", StarAssign) ∷ (codes "/=", SlashAssign) ∷ (codes "%=", PercentAssign)
    ∷ (codes "^=", CaretAssign) ∷ (codes "==", Equal) ∷ (codes "<=", LessEqual) ∷ (codes ">=", GreaterEqual) ∷ (codes "!=", NotEqual)
    ∷ (codes "!~", NotTilde) ∷ (codes "++", Increment) ∷ (codes "--", Decrement) ∷ (codes "&&", And) ∷ (codes "||", Or) ∷ (codes ">>", Append) ∷ []

-- the kind of a word: a reserved one, or a name
abbrev pub word_kind : Option ReservedWord → TokenKind
word_kind None = Name
word_kind (Some (KeywordWord w)) = Keyword w
word_kind (Some (BuiltinWord w)) = Builtin w
word_kind (Some (LeftOutWord w)) = LeftOut w

-- a piece, if the test holds
abbrev pub where_ : Piece → Bool → Option Piece
where_ p b = if b then Some p else None

abbrev pub mark_of : AnyPunctuator → Piece
mark_of p = Token (Punctuator p)

-- What a whole text is as a piece, if it is one. `division` says whether a slash divides here.
unfoldable pub piece_of : Bool → List ℕ → Option Piece
piece_of division [] = None
piece_of division (c ∷ cs) =
    if (c == space) || (c == tab) then where_ Blank (length cs == 0)
    else if c == backslash then where_ Blank (pointwise ◌==◌ cs (newline ∷ []))
    else if c == newline then where_ Newline (length cs == 0)
    else if c == hash then where_ Blank (every on_line cs)
    else if starts_name c then where_ (Token (word_kind (reserved_word_of (c ∷ cs)))) (every goes_on cs)
    else if is_digit c || (c == point) then where_ (Token Number) (is_number (c ∷ cs))
    else if c == quote then where_ (Token Str) (closes true quote false cs)
    else if (c == slash) && not division then where_ (Token Ere) (closes false slash false cs)
    else option_map mark_of (entry (c ∷ cs) punctuators)
