use Rattle.std.proofs.Common.{sym, ◌∙◌}
use Rattle.host_tables.proofs.Jobs.{fault_is}
use Rattle.host_tables.proofs.job.fault_of.Goals as goal

pub returns-then-has_long : goal.returns-then-has_long
returns-then-has_long c = fault_is c.args.job.now _ (sym c.if-has_long.true ∙ c.has_long.ensures)

pub returns-else-has_long : goal.returns-else-has_long
returns-else-has_long c = fault_is c.args.job.now _ (sym c.if-has_long.false ∙ c.has_long.ensures)
