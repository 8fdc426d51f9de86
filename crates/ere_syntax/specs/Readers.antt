-- Escapes, brackets, intervals and signs, read from the front of a text. How they are spelled, Bracket and Signs say.
use Rattle.std.specs.Prelude.{ℕ, zero, suc, Bool, true, false, ◌==◌, nat_le, if◌then◌else◌, Option, Some, None, List, [], ◌∷◌, length}
use Rattle.ere_syntax.specs.Bytes.{colon, backslash, hat, comma, close_brace}
use Rattle.ere_syntax.specs.Reading.{◌>>=◌}
use Rattle.ere_syntax.specs.Bracket.{starts, is_octal, Escape, Octal, Letter, One, Raw, Escaped, value, closed_name, Member, Single, Range, Named, front, dash_at, names_front, Bracket}
use Rattle.ere_syntax.specs.declared.bracket.Front.{Front}
use Rattle.ere_syntax.specs.declared.bracket.Front.TheVariants.{Closes, Names, Begins, Wrong}
use Rattle.ere_syntax.specs.declared.class.Class.{Class}
use Rattle.ere_syntax.specs.declared.class.Class.TheVariants.{Alnum, Alpha, Blank, Cntrl, Digit, Graph, Lower, Print, Punct, Space, Upper, Xdigit}
use Rattle.ere_syntax.specs.Signs.{Exact, Interval, Upto, code, is_digit, is_empty}
use Rattle.ere_syntax.specs.declared.sign.Sign.{Sign}
use Rattle.ere_syntax.specs.declared.sign.Sign.TheVariants.{Dot, Hat, Dollar, OpenMark, CloseMark, BarMark, Star, Plus, Query, Brace, BracketMark, Backslash}

abbrev pub octals_at : ℕ → List ℕ → List ℕ × List ℕ
octals_at zero ts = ([], ts)
octals_at (suc n) [] = ([], [])
octals_at (suc n) (c ∷ cs) = if is_octal c then (c ∷ (octals_at n cs).0, (octals_at n cs).1) else ([], c ∷ cs)

abbrev pub escape_at : List ℕ → Option (Escape × List ℕ)
escape_at [] = None
escape_at (c ∷ cs) = if is_octal c then Some (Octal c (octals_at 2 cs).0, (octals_at 2 cs).1) else Some (Letter c, cs)

abbrev pub one_at : List ℕ → Option (One × List ℕ)
one_at [] = None
one_at (c ∷ cs) = if c == backslash then (escape_at cs >>= λ x. Some (Escaped x.0, x.1)) else Some (Raw c, cs)

abbrev pub strip : List ℕ → List ℕ → Option (List ℕ)
strip [] ts = Some ts
strip (c ∷ cs) [] = None
strip (c ∷ cs) (d ∷ ds) = if d == c then strip cs ds else None

abbrev pub class_or : Class → Option (List ℕ) → Option (Class × List ℕ) → Option (Class × List ℕ)
class_or c (Some rest) other = Some (c, rest)
class_or c None other = other

abbrev pub or_class : Class → List ℕ → Option (Class × List ℕ) → Option (Class × List ℕ)
or_class c ts other = class_or c (strip (closed_name c) ts) other

abbrev pub class_at : List ℕ → Option (Class × List ℕ)
class_at ts =
    or_class Alnum ts (or_class Alpha ts (or_class Blank ts (or_class Cntrl ts (or_class Digit ts (or_class Graph ts
    (or_class Lower ts (or_class Print ts (or_class Punct ts (or_class Space ts (or_class Upper ts (or_class Xdigit ts None)))))))))))

abbrev pub range_to : One → List ℕ → Option (Member × List ℕ)
range_to l ts = if names_front ts then None else (one_at ts >>= λ h. if nat_le (value l) (value h.0) then Some (Range l h.0, h.1) else None)

abbrev pub single_or : One → List ℕ → Option (List ℕ) → Option (Member × List ℕ)
single_or l ts None = Some (Single l, ts)
single_or l ts (Some us) = range_to l us

abbrev pub named_at : List ℕ → Option (Member × List ℕ)
named_at (c ∷ d ∷ cs) = if d == colon then (class_at cs >>= λ x. Some (Named x.0, x.1)) else None
named_at _ = None

abbrev pub member_at : List ℕ → Front → Option (Member × List ℕ)
member_at ts Closes = None
member_at ts Wrong = None
member_at ts Names = named_at ts
member_at ts Begins = one_at ts >>= λ x. single_or x.0 x.1 (dash_at x.1)

abbrev pub behind : List ℕ → List ℕ
behind [] = []
behind (c ∷ cs) = cs

abbrev pub members_by : (List ℕ → Option (List Member × List ℕ)) → List ℕ → Front → Option (List Member × List ℕ)
members_by go ts Closes = Some ([], behind ts)
members_by go ts f = member_at ts f >>= λ x. go x.1 >>= λ y. Some (x.0 ∷ y.0, y.1)

abbrev pub members_at : ℕ → Bool → List ℕ → Option (List Member × List ℕ)
members_at zero first ts = None
members_at (suc w) first ts = members_by (members_at w false) ts (front first ts)

abbrev pub bracket_by : List ℕ → Bool → Option (Bracket × List ℕ)
bracket_by ts true = members_at (length ts) true (behind ts) >>= λ x. Some (record { negated = true; members = x.0 }, x.1)
bracket_by ts false = members_at (length ts) true ts >>= λ x. Some (record { negated = false; members = x.0 }, x.1)

abbrev pub bracket_at : List ℕ → Option (Bracket × List ℕ)
bracket_at ts = bracket_by ts (starts hat ts)

abbrev pub byte_and : ℕ → List ℕ → ℕ × List ℕ
byte_and c rest = (c, rest)

abbrev pub digits_at : List ℕ → List ℕ × List ℕ
digits_at [] = ([], [])
digits_at (c ∷ cs) = if is_digit c then (c ∷ (digits_at cs).0, (digits_at cs).1) else ([], c ∷ cs)

abbrev pub upto_by : List ℕ → List ℕ × List ℕ → Option (Interval × List ℕ)
upto_by ds x = if starts close_brace x.1 then Some (Upto ds x.0, behind x.1) else None

abbrev pub interval_by : List ℕ × List ℕ → Option (Interval × List ℕ)
interval_by x =
    if is_empty x.0 then None else
    if starts close_brace x.1 then Some (Exact x.0, behind x.1) else
    if starts comma x.1 then upto_by x.0 (digits_at (behind x.1)) else None

abbrev pub interval_at : List ℕ → Option (Interval × List ℕ)
interval_at ts = interval_by (digits_at ts)

abbrev pub or_sign : Sign → ℕ → Option Sign → Option Sign
or_sign s c other = if c == code s then Some s else other

unfoldable pub sign_of : ℕ → Option Sign
sign_of c =
    or_sign Dot c (or_sign Hat c (or_sign Dollar c (or_sign OpenMark c (or_sign CloseMark c (or_sign BarMark c
    (or_sign Star c (or_sign Plus c (or_sign Query c (or_sign Brace c (or_sign BracketMark c (or_sign Backslash c None)))))))))))
