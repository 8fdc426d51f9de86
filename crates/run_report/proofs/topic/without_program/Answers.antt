use Rattle.run_report.proofs.Named.{with, without}
use Rattle.run_report.proofs.topic.without_program.Goals as goal

pub returns-in-Some : goal.returns-in-Some
returns-in-Some c = with c.args.text.now c.in-Some.rest.now c.in-Some.ensures.cases

pub returns-in-None : goal.returns-in-None
returns-in-None c = without c.args.text.now c.in-None.ensures.cases
