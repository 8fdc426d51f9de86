use Rattle.awk_grammar.proofs.StmtDeeper.{script_syntax_only}
use Rattle.awk_grammar.proofs.grammar_laws.syntax_means_no_script.Goals as goal

pub returns : goal.returns
returns c = script_syntax_only
