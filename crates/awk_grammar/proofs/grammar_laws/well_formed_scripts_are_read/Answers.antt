use Rattle.awk_grammar.proofs.ItemComplete.{script_again}
use Rattle.awk_grammar.proofs.grammar_laws.well_formed_scripts_are_read.Goals as goal

pub returns : goal.returns
returns c = script_again
