use Rattle.script_check.proofs.Eres.{of_some}
use Rattle.script_check.proofs.refused.token_fault.Goals as goal

pub returns-in-Some : goal.returns-in-Some
returns-in-Some c = of_some c.args.kind c.in-Some.kind c.args.text.now c.kind_fault.result c.in-Some.is c.kind_fault.ensures
