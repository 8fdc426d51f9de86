-- A script with a probe: what the probe has for the place of a spot is added to the output where the script passes the spot.
use Rattle.std.specs.Prelude.{ℕ, ◌++◌}
use Rattle.wasm_types.specs.Syntax.{Instructions}
use Rattle.sem_scripts.specs.Names.{Resolved}
use Rattle.sem_scripts.specs.ScriptRun.{Ending, Setting}
use Rattle.lower_model.specs.Modules.{called_imports, renumbered}
use Rattle.agreement.specs.Passed.Passed.{Probe}
use Rattle.agreement.specs.Spots.Marked.{Marks, marked_run}
use Rattle.agreement.specs.Spots.Places.{final_program, place_of}
use Rattle.agreement.specs.Spots.Spots.{Home, StatementPath}

-- the place in the script's module, whose calls have the module's numbers
abbrev pub module_place : Resolved → Home → StatementPath → Instructions
module_place script home spot = renumbered (called_imports (final_program script)) (place_of script home spot)

abbrev pub marks_of : Resolved → Probe → Marks
marks_of script probe home spot output = output ++ probe (module_place script home spot)

abbrev pub probed_script : Resolved → Probe → Setting → ℕ → Ending
probed_script script probe setting turns = marked_run (marks_of script probe) script setting turns
