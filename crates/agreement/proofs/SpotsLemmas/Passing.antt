-- A run of a script's module passes the places of the spots that the script passes.
use Rattle.std.proofs.Common.{◌≡◌, ℕ, subst}
use Rattle.sem_scripts.specs.Names.{Resolved}
use Rattle.sem_scripts.specs.ScriptRun.{Ending, Setting}
use Rattle.mid_program.specs.Sorted.{IsSorted}
use Rattle.lower_model.specs.Modules.{module_of}
use Rattle.agreement.specs.Passed.Passed.{Passes, Probe}
use Rattle.agreement.specs.Passed.Probes.{notes_of, probed_run}
use Rattle.agreement.proofs.PassedLemmas.Passing.{passes}
use Rattle.agreement.specs.Spots.Places.{final_program}
use Rattle.agreement.specs.Spots.Probed.{probed_script}
use Rattle.agreement.proofs.SpotsLemmas.Scripts.{run_so}

abbrev pub With : Type 0
With = Probe → Setting → ℕ → Ending

probed_so : (script : Resolved) → probed_run (final_program script) ≡ probed_script script
probed_so script = λ i probe s turns. run_so (notes_of (final_program script) probe) script s turns i

pub script_passes : (script : Resolved) → IsSorted (final_program script) → Passes (probed_script script) (module_of (final_program script))
script_passes script sorted = subst (λ (done : With). Passes done (module_of (final_program script))) (probed_so script) (passes (final_program script) sorted)
