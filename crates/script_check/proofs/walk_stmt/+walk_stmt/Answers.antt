use Rattle.std.proofs.Common.{List, ap, arith}
use Rattle.std.proofs.lemmas.List.{drop_all}
use Rattle.awk_grammar.specs.declared.tree.Stmt.{Stmt}
use Rattle.awk_grammar.specs.ViewStmt.{view_stmts}
use Rattle.awk_grammar.proofs.Views.{block_is}
use Rattle.script_check.specs.Uses.{stmt_uses, stmts_uses}
use Rattle.latched.proofs.LatchedLemmas.{adding_all, adding_first, adding_next, adds_as}
use Rattle.script_check.specs.View.{view_use, view_place}
use Rattle.awk_resolve.proofs.Names.{drop_at}
use Rattle.script_check.proofs.walk_stmt.+walk_stmt.Goals as goal

pub push_stmt-returns-in-Block : goal.push_stmt-returns-in-Block
push_stmt-returns-in-Block t c =
    adds_as view_use _ _ (ap (stmt_uses (view_place c.args.place)) (block_is c.args.s.now c.in-Block.body _ c.in-Block.is c.deref.ensures.value)) c.push_stmts.ensures

pub push_stmts-loop-s-init : goal.push_stmts-loop-s-init
push_stmts-loop-s-init t c = adding_first view_use c.args.out.now _

pub push_stmts-loop-s-preserved : goal.push_stmts-loop-s-preserved
push_stmts-loop-s-preserved t c =
    adding_next view_use _ (ap (λ (us : List Stmt). stmts_uses (view_place c.args.place) (view_stmts us)) (drop_at c.args.body.now c.loop-s.s-index c.s-item.result c.loop-s-test.true c.s-item.is)) c.loop-s.invariant
    c.push_stmt.ensures

pub push_stmts-returns : goal.push_stmts-returns
push_stmts-returns t c =
    adding_all view_use _ (ap (λ (us : List Stmt). stmts_uses (view_place c.args.place) (view_stmts us)) (drop_all c.loop-s.s-index c.args.body.now (omega arith))) c.loop-s.invariant
