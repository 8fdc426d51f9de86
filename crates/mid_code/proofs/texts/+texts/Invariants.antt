use Rattle.std.proofs.Common.{drop}
use Rattle.awk_grammar.specs.View.{views as trees}
use Rattle.mid_program.specs.Texts.{all_texts}
use Rattle.mid_code.proofs.TextTables.{Leads}
use Rattle.mid_code.proofs.texts.+texts.Given as goal

abbrev pub invariant-put_all-loop-e : goal.invariant-put_all-loop-e
invariant-put_all-loop-e l = Leads l.fn.texts l.texts (all_texts (trees (drop l.e-index l.es))) (all_texts (trees l.es))
