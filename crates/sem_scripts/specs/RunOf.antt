-- A run of a script, with the kinds of its names.
use Rattle.std.specs.Prelude.{ℕ, List}
use Rattle.world_core.specs.WorldState.{Outside, Source}
use Rattle.sem_primitives.specs.Jobs.{JobForm}
use Rattle.awk_grammar.specs.Trees.{Item}
use Rattle.sem_scripts.specs.Kinds.{resolved}
use Rattle.sem_scripts.specs.ScriptRun.{Ending, resolved_run, setting_of}

abbrev pub run_of : List Item → JobForm → Source → Outside → ℕ → Ending
run_of script job input outside turns = resolved_run (resolved script) (setting_of job input outside) turns
