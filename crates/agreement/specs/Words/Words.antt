-- What the words of a job assign, and to which of a script's names.
use Rattle.std.specs.List.{Contains}
use Rattle.std.specs.Prelude.{ℕ, ◌≡◌, ◌⊎◌, List, Some, slice_get}
use Rattle.sem_primitives.specs.Assignments.{assignment_of}
use Rattle.sem_primitives.specs.Jobs.{JobForm}
use Rattle.mid_program.specs.Mid.{Declared, Program}
use Rattle.agreement.specs.Places.Assigned.{IsOption}

-- an operand of the job is an assignment to this name
abbrev pub IsArgument : JobForm → List ℕ → Type 0
IsArgument job name = (operand : List ℕ) × (text : List ℕ) × Contains job.operands operand × (assignment_of operand ≡ Some (name, text))

-- a `-v` of the job, or an operand, assigns to this name
abbrev pub Assigns : JobForm → List ℕ → Type 0
Assigns job name = IsOption job name ⊎ IsArgument job name

-- some word of the job assigns to the name of this number among the script's
abbrev pub AssignsName : Program → JobForm → ℕ → Type 0
AssignsName p job i = (named : Declared) × (slice_get p.globals i ≡ Some named) × Assigns job named.name
