-- What a regular expression matches (POSIX XBD 9.4).
use Rattle.std.specs.Prelude.{◌≡◌, ℕ, zero, suc, ◌+◌, ◌≤◌, ◌⊎◌, true, List, length, slice_get, Option, Some, None}
use Rattle.ere_syntax.specs.Tree.{Tree, Empty, Set, Start, End, Group, Repeat, Concat, Or}

-- a relation taken n times, one after another
abbrev pub Iterated : (ℕ → ℕ → Type 0) → ℕ → ℕ → ℕ → Type 0
Iterated R zero i j = i ≡ j
Iterated R (suc n) i j = (k : ℕ) × R i k × Iterated R n k j

-- a number of turns that a repetition allows
abbrev pub IsAllowed : ℕ → Option ℕ → ℕ → Type 0
IsAllowed low None n = low ≤ n
IsAllowed low (Some high) n = (low ≤ n) × (n ≤ high)

-- the expression matches the text from place i to place j
abbrev pub Matches : Tree → List ℕ → ℕ → ℕ → Type 0
Matches Empty text i j = (i ≡ j) × (i ≤ length text)
Matches (Set s) text i j = (c : ℕ) × (slice_get text i ≡ Some c) × (slice_get s c ≡ Some true) × (i + 1 ≡ j)
Matches Start text i j = (i ≡ 0) × (i ≡ j)
Matches End text i j = (i ≡ length text) × (i ≡ j)
Matches (Group t) text i j = Matches t text i j
Matches (Repeat t low high) text i j = (n : ℕ) × IsAllowed low high n × Iterated (Matches t text) n i j × (i ≤ length text)
Matches (Concat a b) text i j = (k : ℕ) × Matches a text i k × Matches b text k j
Matches (Or a b) text i j = Matches a text i j ⊎ Matches b text i j
