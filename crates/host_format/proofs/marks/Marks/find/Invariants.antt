use Rattle.memchr.specs.Find.{Nowhere, Passes}
use Rattle.host_format.specs.Marks.{is_mark}
use Rattle.host_format.proofs.marks.Marks.find.Given as goal

abbrev pub invariant-loop-at : goal.invariant-loop-at
invariant-loop-at l = Nowhere (Passes (is_mark l.self) l.text) 0 l.at
