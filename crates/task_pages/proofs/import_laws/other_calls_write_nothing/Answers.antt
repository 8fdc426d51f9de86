use Rattle.task_pages.proofs.Quiet.{step_quiet}
use Rattle.task_pages.proofs.import_laws.other_calls_write_nothing.Goals as goal

pub returns : goal.returns
returns c = λ i before after words memory a output quiet r. step_quiet i before after words memory a output quiet r
