-- That nodes lead on exactly where an expression matches.
use Rattle.std.specs.Prelude.{◌≡◌, ℕ, ◌<◌, ◌≤◌, List, [], ◌∷◌, length, slice_get, Option}
use Rattle.ere_syntax.specs.Tree.{Tree}
use Rattle.ere_syntax.specs.Matches.{Iterated, IsAllowed, Matches}
use Rattle.ere_match.specs.declared.node.Node.{Node}
use Rattle.ere_match.specs.Runs.{Runs}

-- a run from an entry: the relation from i to a place at which a run from next goes on, which is no longer
pub record Back (all : List Node) (text : List ℕ) (j : ℕ) (R : ℕ → Type 0) (n next : ℕ) : Type 0 where
  pub at : ℕ
  pub left : ℕ
  pub fewer : left ≤ n
  pub related : R at
  pub run : Runs all text j left next at

-- the nodes from entry lead to next exactly along the relation
pub record Means (all : List Node) (text : List ℕ) (R : ℕ → ℕ → Type 0) (entry next : ℕ) : Type 0 where
  pub inside : (i k : ℕ) → R i k → k ≤ length text
  pub forward : (j i k n : ℕ) → R i k → Runs all text j n next k → (m : ℕ) × Runs all text j m entry i
  pub backward : (j i n : ℕ) → i ≤ length text → Runs all text j n entry i → Back all text j (R i) n next

-- final has what new has behind old
abbrev pub AgreeFrom : List Node → List Node → List Node → Type 0
AgreeFrom old new final = (k : ℕ) → length old ≤ k → k < length new → slice_get final k ≡ slice_get new k

-- new is old with more behind it
pub record IsLonger (old new : List Node) : Type 0 where
  pub len : length old ≤ length new
  pub same : (k : ℕ) → k < length old → slice_get new k ≡ slice_get old k

-- the nodes from old to new lead along the relation, whatever comes around them; and if there are none, they do so everywhere
pub record AreBuilt (old new : List Node) (R : List ℕ → ℕ → ℕ → Type 0) (entry next : ℕ) : Type 0 where
  pub made : (final : List Node) (text : List ℕ) → AgreeFrom old new final → Means final text (R text) entry next
  pub none : length new ≡ length old → (entry ≡ next) × ((final : List Node) (text : List ℕ) (n : ℕ) → Means final text (R text) n n)
  pub longer : IsLonger old new

abbrev pub IsBuilt : List Node → List Node → Tree → ℕ → ℕ → Type 0
IsBuilt old new t entry next = AreBuilt old new (Matches t) entry next

-- so many turns
abbrev pub Turns : (List ℕ → ℕ → ℕ → Type 0) → ℕ → Option ℕ → List ℕ → ℕ → ℕ → Type 0
Turns R low high text i j = (n : ℕ) × IsAllowed low high n × Iterated (R text) n i j × (i ≤ length text)

-- exactly so many turns
abbrev pub Power : (List ℕ → ℕ → ℕ → Type 0) → ℕ → List ℕ → ℕ → ℕ → Type 0
Power R c text i j = Iterated (R text) c i j × (i ≤ length text)

-- the parts one after another
abbrev pub InTurn : List Tree → List ℕ → ℕ → ℕ → Type 0
InTurn [] text i j = (i ≡ j) × (i ≤ length text)
InTurn (t ∷ ts) text i j = (k : ℕ) × Matches t text i k × InTurn ts text k j
