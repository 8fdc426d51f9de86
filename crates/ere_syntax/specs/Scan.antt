-- The tokens of a text: how they are spelled, and the tree of a text.
use Rattle.std.specs.Prelude.{◌≡◌, ℕ, zero, suc, ◌+◌, ◌-◌, ◌≤◌, Bool, true, false, ◌&&◌, ◌||◌, ◌==◌, nat_le, if◌then◌else◌, Option, Some, None, List, [], ◌∷◌, ◌++◌}
use Rattle.ere_syntax.specs.Bytes.{tab, carriage_return, last_control, space, exclamation, slash, digit_zero, digit_nine, colon, at_sign, upper_a, upper_f, upper_z, open_bracket, backslash, backquote, lower_a, lower_f, lower_z, open_brace, tilde, delete}
use Rattle.ere_syntax.specs.Tree.{Bytes, Token, Atom, Begin, Stop, Open, Close, Bar, Times, Tree, print, IsEre}
use Rattle.ere_syntax.specs.Bracket.{not, Escape, spell_escape, IsEscape, escape_value, value, Member, Single, Range, Named, Bracket, spell_bracket, IsBracket}
use Rattle.ere_syntax.specs.Readers.{interval_at, sign_of}
use Rattle.ere_syntax.specs.Signs.{Interval, IsInterval, code, fits, high_of, low_of, spell_interval}
use Rattle.ere_syntax.specs.declared.class.Class.{Class}
use Rattle.ere_syntax.specs.declared.class.Class.TheVariants.{Alnum, Alpha, Blank, Cntrl, Digit, Graph, Lower, Print, Punct, Space, Upper, Xdigit}
use Rattle.ere_syntax.specs.declared.sign.Sign.{Sign}
use Rattle.ere_syntax.specs.declared.sign.Sign.TheVariants.{Dot, Hat, Dollar, OpenMark, CloseMark, BarMark, Star, Plus, Query, Brace, BracketMark, Backslash}

-- ---- sets

abbrev pub table_by : (ℕ → Bool) → ℕ → ℕ → Bytes
table_by p zero c = []
table_by p (suc n) c = p c ∷ table_by p n (c + 1)

-- for each of the 256 bytes whether the test holds
unfoldable pub table : (ℕ → Bool) → Bytes
table p = table_by p 256 0

abbrev pub between : ℕ → ℕ → ℕ → Bool
between low high c = nat_le low c && nat_le c high

abbrev pub in_class : Class → ℕ → Bool
in_class Alnum c = between digit_zero digit_nine c || (between upper_a upper_z c || between lower_a lower_z c)
in_class Alpha c = between upper_a upper_z c || between lower_a lower_z c
in_class Blank c = (c == space) || (c == tab)
in_class Cntrl c = between 0 last_control c || (c == delete)
in_class Digit c = between digit_zero digit_nine c
in_class Graph c = between exclamation tilde c
in_class Lower c = between lower_a lower_z c
in_class Print c = between space tilde c
in_class Punct c = between exclamation slash c || (between colon at_sign c || (between open_bracket backquote c || between open_brace tilde c))
in_class Space c = (c == space) || between tab carriage_return c
in_class Upper c = between upper_a upper_z c
in_class Xdigit c = between digit_zero digit_nine c || (between upper_a upper_f c || between lower_a lower_f c)

abbrev pub in_member : Member → ℕ → Bool
in_member (Single o) c = c == value o
in_member (Range l h) c = between (value l) (value h) c
in_member (Named k) c = in_class k c

abbrev pub in_members : List Member → ℕ → Bool
in_members [] c = false
in_members (m ∷ ms) c = in_member m c || in_members ms c

abbrev pub in_bracket : Bracket → ℕ → Bool
in_bracket b c = if b.negated then not (in_members b.members c) else in_members b.members c

-- ---- tokens

pub data Spelling : Type 0 where
  Ordinary : ℕ → Spelling
  Signed : Sign → Spelling
  Escapes : Escape → Spelling
  Bracketed : Bracket → Spelling
  Counted : Interval → Spelling

abbrev pub spell : Spelling → List ℕ
spell (Ordinary c) = c ∷ []
spell (Signed s) = code s ∷ []
spell (Escapes e) = backslash ∷ spell_escape e
spell (Bracketed b) = open_bracket ∷ spell_bracket b
spell (Counted i) = open_brace ∷ spell_interval i

-- a byte that is no sign, a `{` that begins no interval, a `)` where no group is groups
abbrev pub IsOrdinary : ℕ → Option Sign → List ℕ → Type 0
IsOrdinary groups None rest = Unit {0}
IsOrdinary groups (Some Brace) rest = interval_at rest ≡ None
IsOrdinary groups (Some CloseMark) rest = groups ≡ 0
IsOrdinary groups (Some s) rest = ⊥

abbrev pub IsSign : ℕ → Sign → Type 0
IsSign groups CloseMark = 1 ≤ groups
IsSign groups Brace = ⊥
IsSign groups BracketMark = ⊥
IsSign groups Backslash = ⊥
IsSign groups s = Unit {0}

abbrev pub IsSpelling : ℕ → Spelling → List ℕ → Type 0
IsSpelling groups (Ordinary c) rest = IsOrdinary groups (sign_of c) rest
IsSpelling groups (Signed s) rest = IsSign groups s
IsSpelling groups (Escapes e) rest = IsEscape e rest
IsSpelling groups (Bracketed b) rest = IsBracket b rest
IsSpelling groups (Counted i) rest = IsInterval i × (fits i ≡ true)

abbrev pub sign_token : Sign → Token
sign_token Dot = Atom (table (λ c. true))
sign_token Hat = Begin
sign_token Dollar = Stop
sign_token OpenMark = Open
sign_token CloseMark = Close
sign_token BarMark = Bar
sign_token Star = Times 0 None
sign_token Plus = Times 1 None
sign_token Query = Times 0 (Some 1)
sign_token s = Atom (table (λ c. c == code s))

abbrev pub token_of : Spelling → Token
token_of (Ordinary b) = Atom (table (λ c. c == b))
token_of (Signed s) = sign_token s
token_of (Escapes e) = Atom (table (λ c. c == escape_value e))
token_of (Bracketed b) = Atom (table (in_bracket b))
token_of (Counted i) = Times (low_of i) (high_of i)

-- the groups that are groups after it
abbrev pub opened : ℕ → Spelling → ℕ
opened n (Signed OpenMark) = suc n
opened n (Signed CloseMark) = n - 1
opened n s = n

abbrev pub spell_all : List Spelling → List ℕ
spell_all [] = []
spell_all (s ∷ ss) = spell s ++ spell_all ss

abbrev pub AreSpellings : ℕ → List Spelling → Type 0
AreSpellings n [] = Unit {0}
AreSpellings n (s ∷ ss) = IsSpelling n s (spell_all ss) × AreSpellings (opened n s) ss

abbrev pub tokens_of : List Spelling → List Token
tokens_of [] = []
tokens_of (s ∷ ss) = token_of s ∷ tokens_of ss

-- the tree of a text
pub record IsEreOf (text : List ℕ) (t : Tree) : Type 0 where
  pub spellings : List Spelling
  pub spelled : spell_all spellings ≡ text
  pub fine : AreSpellings 0 spellings
  pub tokens : print t ≡ tokens_of spellings
  pub ere : IsEre t
