-- What the nodes of an automaton do.
use Rattle.std.specs.Prelude.{◌≡◌, ℕ, zero, suc, ◌+◌, ◌⊎◌, ◌==◌, true, List, length, slice_get, Option, Some, None}
use Rattle.ere_syntax.specs.Tree.{Bytes}
use Rattle.ere_syntax.specs.Scan.{table}
use Rattle.ere_match.specs.declared.node.Filter.{Filter}
use Rattle.ere_match.specs.declared.node.Filter.TheVariants as filters
use Rattle.ere_match.specs.declared.node.Node.{Node}
use Rattle.ere_match.specs.declared.node.Node.TheVariants as nodes

-- the bytes that a filter lets through
abbrev pub filter_set : Filter → Bytes
filter_set (filters.Byte b) = table (λ c. c == b)
filter_set filters.Any = table (λ c. true)
filter_set (filters.Bracket s) = s.value.has

-- the byte at a place is of the set
abbrev pub IsTaken : Bytes → List ℕ → ℕ → Type 0
IsTaken s text i = (c : ℕ) × (slice_get text i ≡ Some c) × (slice_get s c ≡ Some true)

-- what a node does at a place of the text, where next is what goes on
abbrev pub Step : (ℕ → ℕ → Type 0) → List ℕ → ℕ → ℕ → Option Node → Type 0
Step next text i j None = ⊥
Step next text i j (Some nodes.Accept) = i ≡ j
Step next text i j (Some nodes.Never) = ⊥
Step next text i j (Some (nodes.Take f to)) = IsTaken (filter_set f) text i × next to (i + 1)
Step next text i j (Some (nodes.Split to other)) = next to i ⊎ next other i
Step next text i j (Some (nodes.Start to)) = (i ≡ 0) × next to i
Step next text i j (Some (nodes.End to)) = (i ≡ length text) × next to i

-- from a node at place i, an accepting node is reached at place j in fewer than n steps
abbrev pub Runs : List Node → List ℕ → ℕ → ℕ → ℕ → ℕ → Type 0
Runs all text j zero id i = ⊥
Runs all text j (suc n) id i = Step (λ to k. Runs all text j n to k) text i j (slice_get all id)
