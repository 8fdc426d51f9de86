use Rattle.memchr.specs.Find.{Nowhere, Passes, is_byte2}
use Rattle.host_bytes.proofs.replacement.find_special.Given as goal

abbrev pub invariant-loop-at : goal.invariant-loop-at
invariant-loop-at l = Nowhere (Passes (is_byte2 92 38) l.by) 0 l.at
