use Rattle.module_writer.proofs.NoTrace.{no_trace}
use Rattle.module_writer.proofs.name_laws.custom_sections_leave_no_trace.Goals as goal

pub returns : goal.returns
returns c = no_trace
