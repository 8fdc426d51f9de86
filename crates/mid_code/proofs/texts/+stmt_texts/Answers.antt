use Rattle.std.proofs.Common.{List, ap, arith}
use Rattle.std.proofs.lemmas.List.{drop_all}
use Rattle.awk_grammar.specs.ViewStmt.{view_stmts}
use Rattle.awk_grammar.specs.declared.tree.Stmt.{Stmt}
use Rattle.awk_resolve.proofs.Names.{drop_at}
use Rattle.mid_program.specs.Texts.{stmts_texts}
use Rattle.mid_code.proofs.TextTables.{adds_as, block_texts, leads_all, leads_first, leads_next}
use Rattle.mid_code.proofs.texts.+stmt_texts.Goals as goal

pub put_stmt-returns-in-Block : goal.put_stmt-returns-in-Block
put_stmt-returns-in-Block t c = adds_as _ _ (block_texts c.args.s.now c.in-Block.body _ c.in-Block.is c.deref.ensures.value) c.put_stmts.ensures

pub put_stmts-loop-s-init : goal.put_stmts-loop-s-init
put_stmts-loop-s-init t c = leads_first c.args.texts.now _

pub put_stmts-loop-s-preserved : goal.put_stmts-loop-s-preserved
unfolding stmts_texts
put_stmts-loop-s-preserved t c =
    leads_next _ (ap (λ (us : List Stmt). stmts_texts (view_stmts us)) (drop_at c.args.body.now c.loop-s.s-index c.s-item.result c.loop-s-test.true c.s-item.is)) c.loop-s.invariant c.put_stmt.ensures

pub put_stmts-returns : goal.put_stmts-returns
unfolding stmts_texts
put_stmts-returns t c = leads_all _ (ap (λ (us : List Stmt). stmts_texts (view_stmts us)) (drop_all c.loop-s.s-index c.args.body.now (omega arith))) c.loop-s.invariant
