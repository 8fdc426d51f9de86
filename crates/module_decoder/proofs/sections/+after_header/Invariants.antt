use Rattle.std.proofs.Common.{length}
use Rattle.module_decoder.proofs.sections.+after_header.Given as goal

abbrev pub decreases-after_header : goal.decreases-after_header
decreases-after_header l = length l.header.now
