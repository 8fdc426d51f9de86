use Rattle.module_validator.proofs.Functions.{AreTyped}
use Rattle.module_validator.proofs.valid.check_funcs.Given as goal

abbrev pub invariant-loop-index : goal.invariant-loop-index
invariant-loop-index l = AreTyped l.m l.index
