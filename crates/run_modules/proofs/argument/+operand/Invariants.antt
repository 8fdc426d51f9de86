use Rattle.run_modules.proofs.argument.+operand.Given as goal

abbrev pub decreases-operand : goal.decreases-operand
decreases-operand g l = l.nested
