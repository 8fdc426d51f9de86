use Rattle.std.proofs.Common.{length}
use Rattle.ere_syntax.proofs.class.+strip.Given as goal

abbrev pub decreases-strip : goal.decreases-strip
decreases-strip l = length l.prefix.now
