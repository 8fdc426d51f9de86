use Rattle.std.proofs.Common.{◌≡◌, drop}
use Rattle.sem_primitives.specs.Assignments.{named}
use Rattle.sem_primitives.proofs.constants.named_among.Given as goal

abbrev pub invariant-loop-special : goal.invariant-loop-special
invariant-loop-special l = named l.name (drop l.special-index l.list) ≡ named l.name l.list
