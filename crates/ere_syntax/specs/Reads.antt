-- What the readers of the code answer, as the readers of the definitions do.
use Rattle.std.specs.Prelude.{ℕ, Bool, true, ◌==◌, nat_le, if◌then◌else◌, Option, Some, None, Result, Ok, Err, List, [], ◌∷◌, length, option_map}
use Rattle.ere_syntax.specs.Tree.{Bytes}
use Rattle.ere_syntax.specs.Reading.{◌>>=◌}
use Rattle.ere_syntax.specs.Bytes.{colon}
use Rattle.ere_syntax.specs.Bracket.{names_front, dash_at, value, Member, Single, Range, Named}
use Rattle.ere_syntax.specs.Readers.{one_at, byte_and, or_class, class_at, members_at, bracket_at}
use Rattle.ere_syntax.specs.Scan.{between, in_class, in_members, in_bracket, table}
use Rattle.ere_syntax.specs.declared.class.Class.{Class}
use Rattle.ere_syntax.specs.declared.class.Class.TheVariants.{Punct}
use Rattle.ere_syntax.specs.declared.bracket.Front.{Front}
use Rattle.ere_syntax.specs.declared.bracket.Front.TheVariants.{Closes}
use Rattle.ere_syntax.specs.declared.bracket.Item.{Item}
use Rattle.ere_syntax.specs.declared.bracket.Item.TheVariants as items

-- what was read and what follows it, or nothing where the reading stopped
abbrev pub kept : {A E : Type 0} → Result A E → Option A
kept (Ok x) = Some x
kept (Err e) = None

-- ---- classes

abbrev pub class_and : Class → List ℕ → Class × List ℕ
class_and c rest = (c, rest)

abbrev pub in_punct : ℕ → Bool
in_punct c = in_class Punct c

-- the first class of the list that is named at the front
abbrev pub class_in : List Class → List ℕ → Option (Class × List ℕ)
class_in [] ts = None
class_in (c ∷ cs) ts = or_class c ts (class_in cs ts)

-- the class that is named at the front
unfoldable pub class_read : List ℕ → Option (Class × List ℕ)
class_read ts = class_at ts

-- ---- members of brackets

-- the member by its bytes, however they are spelled
abbrev pub item_of : Member → Item
item_of (Single o) = items.Single (value o)
item_of (Range l h) = items.Range (value l) (value h)
item_of (Named c) = items.Named c

abbrev pub in_item : Item → ℕ → Bool
in_item (items.Single b) c = c == b
in_item (items.Range l h) c = between l h c
in_item (items.Named k) c = in_class k c

abbrev pub item_and : Item → List ℕ → Item × List ℕ
item_and i rest = (i, rest)

-- the upper byte of a range
abbrev pub at_least : ℕ → Option (ℕ × List ℕ) → Option (ℕ × List ℕ)
at_least low None = None
at_least low (Some x) = if nat_le low x.0 then Some x else None

abbrev pub upper_by : ℕ → List ℕ → Option (ℕ × List ℕ)
upper_by low ts = if names_front ts then None else at_least low (option_map (λ x. byte_and (value x.0) x.1) (one_at ts))

abbrev pub item_or : ℕ → List ℕ → Option (List ℕ) → Option (Item × List ℕ)
item_or b ts None = Some (items.Single b, ts)
item_or b ts (Some us) = option_map (λ y. item_and (items.Range b y.0) y.1) (upper_by b us)

-- a class, with its bracket
abbrev pub named_item : Option (Class × List ℕ) → Option (Item × List ℕ)
named_item None = None
named_item (Some x) = Some (item_and (items.Named x.0) x.1)

abbrev pub read_named : List ℕ → Option (Item × List ℕ)
read_named (c ∷ d ∷ cs) = if d == colon then named_item (class_read cs) else None
read_named _ = None

-- a byte or a range
abbrev pub begun : List ℕ → Option (Item × List ℕ)
begun ts = option_map (λ x. byte_and (value x.0) x.1) (one_at ts) >>= λ x. item_or x.0 x.1 (dash_at x.1)

abbrev pub set_and : Bytes → List ℕ → Bytes × List ℕ
set_and s rest = (s, rest)

abbrev pub closed_by : Front → List ℕ → Option (List ℕ)
closed_by Closes (c ∷ cs) = Some cs
closed_by Closes [] = None
closed_by _ ts = None

-- the bytes of the members, and what follows them
abbrev pub read_members : List ℕ → Option (Bytes × List ℕ)
read_members ts = option_map (λ x. set_and (table (in_members x.0)) x.1) (members_at (length ts) true ts)

-- the bytes of a bracket expression, and what follows it
abbrev pub read_bracket : List ℕ → Option (Bytes × List ℕ)
read_bracket ts = option_map (λ x. set_and (table (in_bracket x.0)) x.1) (bracket_at ts)
