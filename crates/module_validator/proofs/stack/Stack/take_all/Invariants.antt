use Rattle.std.proofs.Common.{◌≡◌, length, reverse}
use Rattle.module_validator.specs.Forms.{pops}
use Rattle.module_validator.proofs.stack.Stack.take_all.Given as goal

abbrev pub invariant-loop-k : goal.invariant-loop-k
invariant-loop-k l = pops (reverse l.left) l.self ≡ pops (reverse l.fn.kinds) l.fn.self

abbrev pub decreases-loop-k : goal.decreases-loop-k
decreases-loop-k l = length l.left
