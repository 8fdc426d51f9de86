use Rattle.script_check.proofs.Eres.{of_kind}
use Rattle.script_check.proofs.refused.kind_fault.Goals as goal

pub returns-in-Ere : goal.returns-in-Ere
returns-in-Ere c = of_kind c.args.kind c.args.text.now c.inner.result.now c.ere_fault.result c.in-Ere.is c.inner.ensures c.ere_fault.ensures
