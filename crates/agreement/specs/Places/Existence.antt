-- That a module has runs.
use Rattle.std.specs.Prelude.{ℕ}
use Rattle.sem_primitives.specs.Jobs.{JobForm, Environment}
use Rattle.world_core.specs.WorldState.{Source}
use Rattle.wasm_types.specs.Syntax.{ModuleForm}
use Rattle.agreement.specs.Modules.Agreement.{MayEnd, ModuleEnding}

-- in a job and a world a run of each number of steps, or a shorter one that ends
abbrev pub HasRuns : ModuleForm → JobForm → Source → Environment → Type 0
HasRuns m job input outside = (steps : ℕ) → (e : ModuleEnding) × MayEnd m job input outside steps e
