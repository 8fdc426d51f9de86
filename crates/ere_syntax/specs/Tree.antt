-- Trees of regular expressions, and their tokens.
use Rattle.std.specs.Prelude.{ℕ, ◌+◌, ◌*◌, ◌≤◌, max, Bool, List, [], ◌∷◌, ◌++◌, Option, Some, None}

-- a set of bytes: for each byte whether it is in it
abbrev pub Bytes : Type 0
Bytes = List Bool

pub data Token : Type 0 where
  Atom : Bytes → Token
  Begin Stop Open Close Bar : Token
  Times : ℕ → Option ℕ → Token

pub data Tree : Type 0 where
  Empty : Tree
  Set : Bytes → Tree
  Start End : Tree
  Group : Tree → Tree
  Repeat : Tree → ℕ → Option ℕ → Tree
  Concat Or : Tree → Tree → Tree

abbrev pub print : Tree → List Token
print Empty = []
print (Set s) = Atom s ∷ []
print Start = Begin ∷ []
print End = Stop ∷ []
print (Group t) = Open ∷ (print t ++ (Close ∷ []))
print (Repeat t low high) = print t ++ (Times low high ∷ [])
print (Concat a b) = print a ++ print b
print (Or a b) = print a ++ (Bar ∷ print b)

-- how tightly the tree binds: alternatives, branches, the anchor that takes no repetition, what takes one
abbrev pub level : Tree → ℕ
level Empty = 0
level (Or a b) = 1
level (Concat a b) = 2
level Start = 3
level _ = 4

-- below the whole; lists lean to the left
abbrev pub IsPart : Tree → Type 0
IsPart Empty = ⊥
IsPart (Set s) = Unit {0}
IsPart Start = Unit {0}
IsPart End = Unit {0}
IsPart (Group t) = IsPart t
IsPart (Repeat t low high) = IsPart t × (4 ≤ level t)
IsPart (Concat a b) = IsPart a × IsPart b × (2 ≤ level a) × (3 ≤ level b)
IsPart (Or a b) = IsPart a × IsPart b × (2 ≤ level b)

abbrev pub IsEre : Tree → Type 0
IsEre Empty = Unit {0}
IsEre t = IsPart t

-- ---- limits

abbrev pub times : ℕ → Option ℕ → ℕ
times low None = max low 1
times low (Some high) = high

abbrev pub positions : Tree → ℕ
positions Empty = 0
positions (Group t) = positions t
positions (Repeat t low high) = positions t * times low high
positions (Concat a b) = positions a + positions b
positions (Or a b) = positions a + positions b
positions _ = 1

abbrev pub nesting : Tree → ℕ
nesting (Group t) = nesting t + 1
nesting (Repeat t low high) = nesting t + 1
nesting (Concat a b) = max (nesting a) (nesting b)
nesting (Or a b) = max (nesting a) (nesting b)
nesting _ = 0

-- so many positions an expression has at most, and so deep groups and repetitions stand in one another
abbrev pub most_positions : ℕ
most_positions = 10000

abbrev pub most_ere_nesting : ℕ
most_ere_nesting = 1000

-- the greatest count of an interval
abbrev pub most_count : ℕ
most_count = 255

-- the limits on what is accepted
abbrev pub IsWithinLimits : Tree → Type 0
IsWithinLimits t = (positions t ≤ most_positions) × (nesting t ≤ most_ere_nesting)
