use Rattle.std.proofs.Common.{sym, ◌∙◌}
use Rattle.awk_grammar.proofs.ItemComplete.{one_script}
use Rattle.awk_grammar.proofs.grammar_laws.one_script.Goals as goal

pub returns-clause-printed : goal.returns-clause-printed
returns-clause-printed c = one_script

pub returns-clause-tokens : goal.returns-clause-tokens
returns-clause-tokens c = λ tokens s t f g. one_script s t f.fine g.fine (f.parts ∙ sym g.parts)
