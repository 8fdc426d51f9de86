use Rattle.task_pages.proofs.Runs.{run_by_own}
use Rattle.task_pages.proofs.import_laws.runs_make_imported_calls.Goals as goal

pub returns : goal.returns
returns g c = λ m steps d d' h h' output e r. run_by_own g.H.HostCalls.meaning m steps d h output e d' h' r
