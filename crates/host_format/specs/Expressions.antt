-- Expressions, their automata and their first matches.
use Rattle.std.specs.Prelude.{◌≡◌, ℕ, ◌<◌, ◌≤◌, nat_lt, List, if◌then◌else◌, Option, Some, None, Ok}
use Rattle.awk_values.specs.declared.fault.Fault.TheVariants as faults
use Rattle.awk_values.specs.declared.fault.Stop.{Stop}
use Rattle.awk_values.specs.declared.fault.Stop.TheVariants as stops
use Rattle.ere_syntax.specs.Tree.{Tree}
use Rattle.ere_syntax.specs.declared.fault.EreFault.{EreFault}
use Rattle.ere_syntax.specs.declared.fault.EreFault.TheVariants.{BadEre, EreTooLarge, NoMemory}
use Rattle.ere_match.specs.Autos.{IsAutoOf}
use Rattle.ere_match.specs.declared.automaton.Auto.{Auto}
use Rattle.sem_primitives.specs.FirstMatch.{longest}
use Rattle.sem_primitives.specs.Eres.{expression_of}

-- an automaton of some expression
abbrev pub IsAuto : Auto → Type 0
IsAuto auto = (t : Tree) × IsAutoOf auto t

-- an automaton of the expression that the text is
abbrev pub IsExpression : List ℕ → Auto → Type 0
IsExpression text auto = (t : Tree) × (expression_of text ≡ Ok t) × IsAutoOf auto t

abbrev pub is_stop_of_ere : EreFault → Stop
is_stop_of_ere (BadEre place) = stops.Fault faults.BadEre
is_stop_of_ere EreTooLarge = stops.Fault faults.EreTooLarge
is_stop_of_ere NoMemory = stops.NoMemory

-- the first place from one on, and before another, that has an end
pub record IsFirstAt (end : ℕ → Option ℕ) (from size start stop : ℕ) : Type 0 where
  pub low : from ≤ start
  pub high : start < size
  pub is : end start ≡ Some stop
  pub before : (k : ℕ) → from ≤ k → k < start → end k ≡ None

abbrev pub IsFirstBy : (ℕ → Option ℕ) → ℕ → ℕ → Option (ℕ × ℕ) → Type 0
IsFirstBy end from size None = (k : ℕ) → from ≤ k → k < size → end k ≡ None
IsFirstBy end from size (Some p) = IsFirstAt end from size p.0 p.1

abbrev pub unless_empty : ℕ → Option ℕ → Option ℕ
unless_empty at None = None
unless_empty at (Some end) = if nat_lt at end then Some end else None

-- the end of the longest match at a place, unless that is empty
abbrev pub not_empty : Tree → List ℕ → ℕ → Option ℕ
not_empty t text at = unless_empty at (longest t text at)
