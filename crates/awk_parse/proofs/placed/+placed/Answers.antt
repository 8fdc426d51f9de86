use Rattle.std.proofs.Common.{◌+◌, List, ◌++◌, drop, ap, sym, ◌∙◌}
use Rattle.std.proofs.lemmas.Result.{on_ok_weaker}
use Rattle.awk_grammar.specs.declared.tree.Stmt.{Stmt}
use Rattle.awk_grammar.specs.ViewStmt.{view_stmts}
use Rattle.awk_grammar.proofs.Views.{block_is}
use Rattle.awk_parse.specs.Jumps.{jumps, all_jumps}
use Rattle.awk_parse.proofs.Places.{drop_at, more_jumps}
use Rattle.awk_parse.proofs.placed.+placed.Goals as goal

pub push_jumps-returns-in-Block : goal.push_jumps-returns-in-Block
push_jumps-returns-in-Block t c =
    on_ok_weaker c.push_all.result (λ h. h ∙ ap (λ u. c.args.out.now.items ++ jumps c.args.place c.args.looped u) (block_is c.args.s.now c.in-Block.body _ c.in-Block.is c.deref.ensures.value)) c.push_all.ensures

pub push_all-loop-s-preserved : goal.push_all-loop-s-preserved
push_all-loop-s-preserved t c =
    let body = c.args.body.now in
    let i = c.loop-s.s-index in
    let old = c.loop-s.out.items in
    more_jumps old _ _ (all_jumps c.args.place c.args.looped (view_stmts (drop (i + 1) body))) c.in_ok-push_jumps.ensures
    ∙ sym (ap (λ (us : List Stmt). old ++ all_jumps c.args.place c.args.looped (view_stmts us)) (drop_at body i c.s-item.result c.loop-s-test.true c.s-item.is))
    ∙ c.loop-s.invariant
