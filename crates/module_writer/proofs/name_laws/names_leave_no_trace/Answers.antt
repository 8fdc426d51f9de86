use Rattle.module_writer.proofs.NoTrace.{names_no_trace}
use Rattle.module_writer.proofs.name_laws.names_leave_no_trace.Goals as goal

pub returns : goal.returns
returns c = names_no_trace
