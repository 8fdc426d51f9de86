-- Jobs and inputs of rows.
use Rattle.std.specs.Prelude.{ℕ, List, []}
use Rattle.world_core.specs.WorldState.{Source}
use Rattle.world_core.specs.declared.world.Ending.TheVariants.{End, Fails}
use Rattle.sem_primitives.specs.Jobs.{JobForm}

-- a standard input with these bytes, and one that fails after them
abbrev pub input : List ℕ → Source
input bytes = record { rest = bytes; ending = End }

abbrev pub failing : List ℕ → Source
failing bytes = record { rest = bytes; ending = Fails }

-- a command line with these operands, and one with these assignments
abbrev pub operands : List (List ℕ) → JobForm
operands words = record { operands = words; assigns = []; environment = [] }

abbrev pub assigns : List (List ℕ × List ℕ) → JobForm
assigns pairs = record { operands = []; assigns = pairs; environment = [] }
