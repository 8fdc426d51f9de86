-- The tokens that the code reads.
use Rattle.std.specs.Prelude.{ℕ, true, ◌==◌, if◌then◌else◌, Option, Some, None, List, [], ◌∷◌, option_map}
use Rattle.ere_syntax.specs.Tree.{Bytes, Token, Atom, Begin, Stop, Open, Close, Bar, Times}
use Rattle.ere_syntax.specs.Reading.{◌>>=◌}
use Rattle.ere_syntax.specs.Bracket.{escape_value}
use Rattle.ere_syntax.specs.Readers.{byte_and, escape_at, sign_of}
use Rattle.ere_syntax.specs.Scan.{table, sign_token, token_of}
use Rattle.ere_syntax.specs.EreOf.{spelling_by}
use Rattle.ere_syntax.specs.Reads.{read_bracket}
use Rattle.ere_syntax.specs.Counts.{Counted, counted, fitting}
use Rattle.ere_syntax.specs.declared.sign.Sign.{Sign}
use Rattle.ere_syntax.specs.declared.sign.Sign.TheVariants as signs
use Rattle.ere_syntax.specs.declared.token.Atom.{Atom as CodeAtom}
use Rattle.ere_syntax.specs.declared.token.Atom.TheVariants as atoms
use Rattle.ere_syntax.specs.declared.token.Token.TheVariants as tokens
use Rattle.ere_syntax.specs.declared.token.Token.{Token as CodeToken}

abbrev pub byte_token : ℕ → Token
byte_token b = Atom (table (λ c. c == b))

abbrev pub atom_set : CodeAtom → Bytes
atom_set (atoms.Byte b) = table (λ c. c == b)
atom_set atoms.Any = table (λ c. true)
atom_set (atoms.Bracket s) = s.has

abbrev pub token_view : CodeToken → Token
token_view (tokens.Atom a) = Atom (atom_set a)
token_view tokens.Begin = Begin
token_view tokens.Stop = Stop
token_view tokens.Open = Open
token_view tokens.Close = Close
token_view tokens.Bar = Bar
token_view (tokens.Times t) = Times t.low t.high

abbrev pub token_and : Token → List ℕ → Token × List ℕ
token_and t rest = (t, rest)

-- the token at the front of a text, by its spelling
abbrev pub read_token : ℕ → List ℕ → Option (Token × List ℕ)
read_token groups [] = None
read_token groups (c ∷ cs) = spelling_by groups c cs (sign_of c) >>= λ x. Some (token_and (token_of x.0) x.1)

-- the same, by its bytes
abbrev pub counted_token : List ℕ → Option Counted → Option (Token × List ℕ)
counted_token cs None = Some (token_and (byte_token 123) cs)
counted_token cs (Some k) = option_map (λ t. token_and (Times t.0 t.1) k.rest) (fitting k.low k.high)

abbrev pub escape_token : List ℕ → Option (Token × List ℕ)
escape_token cs = option_map (λ x. token_and (byte_token x.0) x.1) (option_map (λ x. byte_and (escape_value x.0) x.1) (escape_at cs))

abbrev pub bracket_token : List ℕ → Option (Token × List ℕ)
bracket_token cs = option_map (λ x. token_and (Atom x.0) x.1) (read_bracket cs)

abbrev pub lexed_by : ℕ → ℕ → List ℕ → Option Sign → Option (Token × List ℕ)
lexed_by groups c cs None = Some (token_and (byte_token c) cs)
lexed_by groups c cs (Some signs.Backslash) = escape_token cs
lexed_by groups c cs (Some signs.BracketMark) = bracket_token cs
lexed_by groups c cs (Some signs.Brace) = counted_token cs (counted cs)
lexed_by groups c cs (Some signs.CloseMark) = Some (token_and (if groups == 0 then byte_token 41 else Close) cs)
lexed_by groups c cs (Some s) = Some (token_and (sign_token s) cs)

abbrev pub lexed : ℕ → List ℕ → Option (Token × List ℕ)
lexed groups [] = None
lexed groups (c ∷ cs) = lexed_by groups c cs (sign_of c)
