-- A program with a probe: its places are those of its code, whose calls have the module's numbers.
use Rattle.std.specs.Prelude.{ℕ, ◌++◌}
use Rattle.mid_program.specs.Mid.{Program}
use Rattle.sem_scripts.specs.ScriptRun.{Ending, Setting}
use Rattle.lower_model.specs.Machine.{Notes}
use Rattle.lower_model.specs.Modules.{called_imports, renumbered}
use Rattle.lower_model.specs.Noted.{noted_run_in}
use Rattle.agreement.specs.Passed.Passed.{Probe}

abbrev pub notes_of : Program → Probe → Notes
notes_of p probe code output = output ++ probe (renumbered (called_imports p) code)

abbrev pub probed_run : Program → Probe → Setting → ℕ → Ending
probed_run p probe setting turns = noted_run_in (notes_of p probe) p setting turns
