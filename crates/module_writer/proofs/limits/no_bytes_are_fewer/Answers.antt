use Rattle.module_writer.proofs.Exact.{no_fewer}
use Rattle.module_writer.proofs.limits.no_bytes_are_fewer.Goals as goal

pub returns : goal.returns
returns c = no_fewer
