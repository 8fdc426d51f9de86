use Rattle.std.proofs.Common.{◌≡◌, drop}
use Rattle.ere_syntax.specs.Reads.{class_in, class_read}
use Rattle.ere_syntax.proofs.class.class_of.Given as goal

abbrev pub invariant-loop-class : goal.invariant-loop-class
invariant-loop-class l = class_in (drop l.class-index l.class-items) l.text ≡ class_read l.text
