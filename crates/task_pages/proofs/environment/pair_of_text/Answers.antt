use Rattle.std.proofs.Common.{arith}
use Rattle.task_pages.specs.Jobs.{is_equals}
use Rattle.task_pages.proofs.Equals.{none_passes}
use Rattle.task_pages.proofs.environment.pair_of_text.Goals as goal

pub returns-in-None : goal.returns-in-None
returns-in-None c = rw (none_passes is_equals c.args.entry.now (c.in-None.ensures.byte (omega arith) (λ w o h. h)))
