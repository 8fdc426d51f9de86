-- The first match of a regular expression, computed: the leftmost, and of these the longest (POSIX XBD 9.1, 9.4).
use Rattle.std.specs.Prelude.{ℕ, zero, suc, ◌+◌, ◌-◌, ◌==◌, nat_le, min, max, Bool, true, false, List, [], ◌∷◌, length, slice_get, Option, Some, None, is_some}
use Rattle.ere_syntax.specs.Tree.{Bytes, Tree, Empty, Set, Start, End, Group, Repeat, Concat, Or}
use Rattle.sem_primitives.specs.Texts.{has}

-- Sets of places, as lists without an order.

abbrev pub unless_there : Bool → ℕ → List ℕ → List ℕ
unless_there true n ns = ns
unless_there false n ns = n ∷ ns

abbrev pub added : ℕ → List ℕ → List ℕ
added n ns = unless_there (has n ns) n ns

abbrev pub united : List ℕ → List ℕ → List ℕ
united [] ns = ns
united (m ∷ ms) ns = added m (united ms ns)

-- all that some place of the set leads to
abbrev pub each : (ℕ → List ℕ) → List ℕ → List ℕ
each f [] = []
each f (n ∷ ns) = united (f n) (each f ns)

abbrev pub only_if : Bool → ℕ → List ℕ
only_if true n = n ∷ []
only_if false n = []

abbrev pub is_in : Option Bool → Bool
is_in None = false
is_in (Some b) = b

abbrev pub in_set : Bytes → Option ℕ → Bool
in_set s None = false
in_set s (Some c) = is_in (slice_get s c)

-- exactly n turns
abbrev pub turned : ℕ → (List ℕ → List ℕ) → List ℕ → List ℕ
turned zero step ns = ns
turned (suc n) step ns = turned n step (step ns)

-- at most n turns
abbrev pub closed : ℕ → (List ℕ → List ℕ) → List ℕ → List ℕ
closed zero step ns = ns
closed (suc n) step ns = closed n step (united (step ns) ns)

abbrev pub only_when : Bool → List ℕ → List ℕ
only_when true ns = ns
only_when false ns = []

-- From low to high turns. More turns than the text has bytes, beyond the least number, reach no further place.
abbrev pub repeated : ℕ → Option ℕ → ℕ → (List ℕ → List ℕ) → List ℕ → List ℕ
repeated low None size step ns = closed size step (turned low step ns)
repeated low (Some high) size step ns = only_when (nat_le low high) (closed (min (high - low) size) step (turned low step ns))

-- the places up to which the expression matches the text from some place of the set
abbrev pub ends : Tree → List ℕ → List ℕ → List ℕ
ends Empty text ns = each (λ i. only_if (nat_le i (length text)) i) ns
ends (Set s) text ns = each (λ i. only_if (in_set s (slice_get text i)) (i + 1)) ns
ends Start text ns = each (λ i. only_if (i == 0) i) ns
ends End text ns = each (λ i. only_if (i == length text) i) ns
ends (Group t) text ns = ends t text ns
ends (Repeat t low high) text ns = each (λ i. only_if (nat_le i (length text)) i) (repeated low high (length text) (ends t text) ns)
ends (Concat a b) text ns = ends b text (ends a text ns)
ends (Or a b) text ns = united (ends a text ns) (ends b text ns)

abbrev pub greater : ℕ → Option ℕ → ℕ
greater n None = n
greater n (Some m) = max n m

abbrev pub greatest : List ℕ → Option ℕ
greatest [] = None
greatest (n ∷ ns) = Some (greater n (greatest ns))

-- the greatest end of a match from this place
abbrev pub longest : Tree → List ℕ → ℕ → Option ℕ
longest t text at = greatest (ends t text (at ∷ []))

abbrev pub or_next : Option ℕ → ℕ → (ℕ → Option (ℕ × ℕ)) → Option (ℕ × ℕ)
or_next (Some to) at next = Some (at, to)
or_next None at next = next (at + 1)

-- the first of the n places from one on that has an end, with that end
abbrev pub first_by : (ℕ → Option ℕ) → ℕ → ℕ → Option (ℕ × ℕ)
first_by end zero at = None
first_by end (suc n) at = or_next (end at) at (first_by end n)

-- the start and the end of the first match from a place on
abbrev pub first_match : Tree → List ℕ → ℕ → Option (ℕ × ℕ)
first_match t text from = first_by (longest t text) (length text + 1 - from) from

abbrev pub has_match : Tree → List ℕ → Bool
has_match t text = is_some (first_match t text 0)
