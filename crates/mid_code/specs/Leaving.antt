-- What leaves with a value.
use Rattle.awk_grammar.specs.declared.tree.Leaving.{Leaving}
use Rattle.awk_grammar.specs.declared.tree.Leaving.TheVariants.{Exit, Return as Returning}
use Rattle.mid_program.specs.Mid.{Code, Step, ExitWith, Return}

abbrev pub left_with : Leaving → Code → Step
left_with Exit e = ExitWith e
left_with Returning e = Return e
