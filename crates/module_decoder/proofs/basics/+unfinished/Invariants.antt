use Rattle.module_decoder.proofs.basics.+unfinished.Given as goal

abbrev pub decreases-unfinished : goal.decreases-unfinished
decreases-unfinished l = l.most
