-- How often a script passed its places, counted in a run of the module that it is compiled to.
use Rattle.std.specs.Prelude.{ℕ, List}
use Rattle.sem_primitives.specs.Jobs.{JobForm}
use Rattle.world_core.specs.WorldState.{State}
use Rattle.run_report.specs.declared.counts.RunCounts.{RunCounts}
use Rattle.script_compiler.specs.Compiled.{IsCompiled}
use Rattle.run_modules.specs.Counted.{IsCountedOfBytes}

-- What `IsCountedOfBytes` says, of the run of the module that the script is compiled to.
pub record IsCountedIn (tells : Type 0) (bytes : List ℕ) (job : JobForm) (steps : ℕ) (before : State) (counts : RunCounts) : Type 0 where
  pub compiled : List ℕ
  pub is_compiled : IsCompiled bytes compiled
  pub run : IsCountedOfBytes tells bytes compiled job steps before counts
