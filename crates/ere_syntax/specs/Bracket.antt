-- Bytes, escapes and bracket expressions: how they are spelled.
use Rattle.std.specs.Prelude.{codes, ◌≡◌, ℕ, zero, suc, ◌+◌, ◌-◌, ◌*◌, ◌%◌, Bool, true, false, ◌&&◌, ◌||◌, ◌==◌, nat_le, if◌then◌else◌, Option, Some, None, List, [], ◌∷◌, ◌++◌}
use Rattle.ere_syntax.specs.Bytes.{alert, backspace, tab, newline, vertical_tab, form_feed, carriage_return, dash, dot, digit_zero, digit_seven, colon, equals, open_bracket, backslash, close_bracket, hat, lower_a, lower_b, lower_f, lower_n, lower_r, lower_t, lower_v}
use Rattle.ere_syntax.specs.declared.bracket.Front.{Front}
use Rattle.ere_syntax.specs.declared.bracket.Front.TheVariants.{Closes, Names, Begins, Wrong}
use Rattle.ere_syntax.specs.declared.class.Class.{Class}
use Rattle.ere_syntax.specs.declared.class.Class.TheVariants.{Alnum, Alpha, Blank, Cntrl, Digit, Graph, Lower, Print, Punct, Space, Upper, Xdigit}

abbrev pub not : Bool → Bool
not true = false
not false = true

abbrev pub starts : ℕ → List ℕ → Bool
starts b [] = false
starts b (c ∷ cs) = c == b

-- ---- escapes

-- `0` to `7`
abbrev pub is_octal : ℕ → Bool
is_octal c = nat_le digit_zero c && nat_le c digit_seven

pub data Escape : Type 0 where
  Octal : ℕ → List ℕ → Escape
  Letter : ℕ → Escape

-- after the backslash
abbrev pub spell_escape : Escape → List ℕ
spell_escape (Octal d ds) = d ∷ ds
spell_escape (Letter c) = c ∷ []

-- at most n octal digits, and fewer only where no further one follows
abbrev pub AreOctals : ℕ → List ℕ → List ℕ → Type 0
AreOctals zero [] rest = Unit {0}
AreOctals zero (d ∷ ds) rest = ⊥
AreOctals (suc n) [] [] = Unit {0}
AreOctals (suc n) [] (c ∷ cs) = is_octal c ≡ false
AreOctals (suc n) (d ∷ ds) rest = (is_octal d ≡ true) × AreOctals n ds rest

abbrev pub IsEscape : Escape → List ℕ → Type 0
IsEscape (Octal d ds) rest = (is_octal d ≡ true) × AreOctals 2 ds rest
IsEscape (Letter c) rest = is_octal c ≡ false

abbrev pub octal_value : ℕ → List ℕ → ℕ
octal_value n [] = n % 256
octal_value n (d ∷ ds) = octal_value (n * 8 + (d - digit_zero)) ds

-- the letters `a` (alert), `b` (backspace), `f` (form feed), `n` (newline), `r` (return), `t` (tab), `v` (vertical tab); any other byte is itself
abbrev pub letter_value : ℕ → ℕ
letter_value c =
    if c == lower_a then alert else if c == lower_b then backspace else if c == lower_f then form_feed else if c == lower_n then newline else
    if c == lower_r then carriage_return else if c == lower_t then tab else if c == lower_v then vertical_tab else c

abbrev pub escape_value : Escape → ℕ
escape_value (Octal d ds) = octal_value 0 (d ∷ ds)
escape_value (Letter c) = letter_value c

-- ---- one byte in brackets

pub data One : Type 0 where
  Raw : ℕ → One
  Escaped : Escape → One

abbrev pub spell_one : One → List ℕ
spell_one (Raw c) = c ∷ []
spell_one (Escaped e) = backslash ∷ spell_escape e

abbrev pub IsOne : One → List ℕ → Type 0
IsOne (Raw c) rest = (c == backslash) ≡ false
IsOne (Escaped e) rest = IsEscape e rest

abbrev pub value : One → ℕ
value (Raw c) = c
value (Escaped e) = escape_value e

-- ---- classes

-- with the `:]` after it
abbrev pub closed_name : Class → List ℕ
closed_name Alnum = codes "alnum:]"
closed_name Alpha = codes "alpha:]"
closed_name Blank = codes "blank:]"
closed_name Cntrl = codes "cntrl:]"
closed_name Digit = codes "digit:]"
closed_name Graph = codes "graph:]"
closed_name Lower = codes "lower:]"
closed_name Print = codes "print:]"
closed_name Punct = codes "punct:]"
closed_name Space = codes "space:]"
closed_name Upper = codes "upper:]"
closed_name Xdigit = codes "xdigit:]"

-- ---- members

pub data Member : Type 0 where
  Single : One → Member
  Range : One → One → Member
  Named : Class → Member

abbrev pub spell_member : Member → List ℕ
spell_member (Single o) = spell_one o
spell_member (Range l h) = spell_one l ++ (dash ∷ spell_one h)
spell_member (Named c) = open_bracket ∷ (colon ∷ closed_name c)

-- after a bracket, that it names a class or the like
abbrev pub names : List ℕ → Bool
names cs = starts colon cs || (starts dot cs || starts equals cs)

-- what stands at the front within brackets, where the first argument says that no member stands before it
abbrev pub front : Bool → List ℕ → Front
front first [] = Wrong
front first (c ∷ cs) = if (c == close_bracket) && not first then Closes else if (c == open_bracket) && names cs then Names else
    if (c == dash) && (not first && not (starts close_bracket cs)) then Wrong else Begins

-- a dash that makes a range
abbrev pub dash_at : List ℕ → Option (List ℕ)
dash_at [] = None
dash_at (c ∷ []) = None
dash_at (c ∷ d ∷ cs) = if (c == dash) && not (d == close_bracket) then Some (d ∷ cs) else None

-- the upper byte of a range is no class
abbrev pub names_front : List ℕ → Bool
names_front [] = false
names_front (c ∷ cs) = (c == open_bracket) && names cs

abbrev pub IsMember : Bool → Member → List ℕ → Type 0
IsMember first (Single o) rest = IsOne o rest × (front first (spell_one o ++ rest) ≡ Begins) × (dash_at rest ≡ None)
IsMember first (Range l h) rest =
    IsOne l (dash ∷ (spell_one h ++ rest))
    × (front first (spell_one l ++ (dash ∷ (spell_one h ++ rest))) ≡ Begins)
    × IsOne h rest
    × (starts close_bracket (spell_one h ++ rest) ≡ false)
    × (names_front (spell_one h ++ rest) ≡ false)
    × (nat_le (value l) (value h) ≡ true)
IsMember first (Named c) rest = Unit {0}

abbrev pub spell_members : List Member → List ℕ
spell_members [] = close_bracket ∷ []
spell_members (m ∷ ms) = spell_member m ++ spell_members ms

abbrev pub AreMembers : Bool → List Member → List ℕ → Type 0
AreMembers first [] rest = first ≡ false
AreMembers first (m ∷ ms) rest = IsMember first m (spell_members ms ++ rest) × AreMembers false ms rest

-- ---- brackets, after the `[`

pub record Bracket : Type 0 where
  pub negated : Bool
  pub members : List Member

abbrev pub spell_bracket : Bracket → List ℕ
spell_bracket b = if b.negated then (hat ∷ spell_members b.members) else spell_members b.members

abbrev pub IsBracket : Bracket → List ℕ → Type 0
IsBracket b rest = AreMembers true b.members rest × ((not b.negated && starts hat (spell_members b.members ++ rest)) ≡ false)
