use Rattle.std.proofs.Common.{take}
use Rattle.awk_resolve.specs.ViewFound.{Adds}
use Rattle.awk_resolve.proofs.closure.Found.mark_all.Given as goal

abbrev pub invariant-loop-n : goal.invariant-loop-n
invariant-loop-n l = Adds (take l.n-index l.numbers) l.fn.self l.self
