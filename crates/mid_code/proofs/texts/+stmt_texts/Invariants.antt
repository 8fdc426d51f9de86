use Rattle.std.proofs.Common.{drop}
use Rattle.awk_grammar.specs.ViewStmt.{view_stmts}
use Rattle.mid_program.specs.Texts.{stmts_texts}
use Rattle.mid_code.proofs.TextTables.{Leads}
use Rattle.mid_code.proofs.texts.+stmt_texts.Given as goal

abbrev pub invariant-put_stmts-loop-s : goal.invariant-put_stmts-loop-s
invariant-put_stmts-loop-s l = Leads l.fn.texts l.texts (stmts_texts (view_stmts (drop l.s-index l.body))) (stmts_texts (view_stmts l.body))
