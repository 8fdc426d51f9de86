-- Dead ends: nodes that are marked at places of a text from which no run ends there.
use Rattle.std.specs.Prelude.{◌≡◌, ℕ, ◌*◌, ◌<◌, ◌≤◌, ◌⊎◌, Bool, true, false, List, length, slice_get, if◌then◌else◌, nat_lt, Some}
use Rattle.std.proofs.Common.{get_or, Vec, Global}
use Rattle.ere_match.specs.declared.automaton.Auto.{Auto}
use Rattle.ere_match.specs.declared.dead_ends.DeadEnds.{DeadEnds}
use Rattle.ere_match.specs.declared.node.Node.{Node}
use Rattle.ere_match.specs.declared.row.Row.{Row}
use Rattle.ere_match.specs.Rows.{threads_of}
use Rattle.ere_match.specs.Runs.{Runs}
use Rattle.ere_match.specs.Threads.{SetRuns}

abbrev pub SpecEnds : Type 0
SpecEnds = DeadEnds

-- a node is marked at a place, which is a multiple of the step
pub record IsNoted (step : ℕ) (marks : List (Vec Bool Global)) (place id : ℕ) : Type 0 where
  pub number : ℕ
  pub at : place ≡ number * step
  pub nodes : Vec Bool Global
  pub is : slice_get marks number ≡ Some nodes
  pub marked : get_or nodes.items id false ≡ true

-- from a node that is marked at a place behind the floor no run ends in the text
abbrev pub AreDead : List Node → List ℕ → DeadEnds → Type 0
AreDead all text ends = (place id j m : ℕ) → IsNoted ends.step ends.marks.items place id → ends.floor < place → j ≤ length text
    → Runs all text j m id place → ⊥

-- the same marks, of which none up to a place is believed
abbrev pub raised : ℕ → DeadEnds → DeadEnds
raised end ends = record ends { floor = if nat_lt ends.floor end then end else ends.floor }

-- what searches by this automaton have noted of the text is so
abbrev pub AreDeadEnds : Auto → List ℕ → DeadEnds → Type 0
AreDeadEnds auto text ends = AreDead auto.nodes.items text ends

-- ---- while a search is under way

-- the run ends where one from a thread of the row at place i ends
abbrev pub IsTail : List Node → List ℕ → ℕ → Row → ℕ → Type 0
IsTail all text i row j = (i ≤ j) × ∥ ((s : ℕ) × SetRuns all text j i (threads_of row) s) ∥₁

-- a run from a node that is marked at a place behind the floor, if any ends in the text, began before n, and is one of the row's threads at place i
abbrev pub AreTails : List Node → List ℕ → ℕ → ℕ → Bool → Row → DeadEnds → Type 0
AreTails all text i n on row ends = (place id j m : ℕ) → IsNoted ends.step ends.marks.items place id → ends.floor < place → j ≤ length text
    → Runs all text j m id place → (on ≡ true) × (place < n) × IsTail all text i row j

-- no run of the row's threads at place i ends in the text
abbrev pub LeadsNowhere : List Node → List ℕ → ℕ → Row → Type 0
LeadsNowhere all text i row = (j s : ℕ) → j ≤ length text → SetRuns all text j i (threads_of row) s → ⊥

-- all nodes that have a rank are marked
abbrev pub AreAllMarked : List ℕ → List Bool → Type 0
AreAllMarked ranks marks = (id : ℕ) → 0 < get_or ranks id 0 → get_or marks id false ≡ true

-- no other nodes were marked
abbrev pub MarksOnly : List ℕ → List Bool → List Bool → Type 0
MarksOnly ranks old new = (id : ℕ) → get_or new id false ≡ true → (get_or old id false ≡ true) ⊎ (0 < get_or ranks id 0)
