use Rattle.std.proofs.Common.{◌++◌, ap, ◌∙◌}
use Rattle.std.proofs.lemmas.Result.{on_ok_weaker}
use Rattle.awk_grammar.specs.Stmt.{print_stmt}
use Rattle.awk_tree.specs.Lexemes.{lexemes}
use Rattle.awk_grammar.proofs.Views.{block_is}
use Rattle.awk_tree.proofs.printer_stmt.+printer_stmt.Goals as goal

pub push_stmt-returns-in-Block : goal.push_stmt-returns-in-Block
push_stmt-returns-in-Block t c =
    on_ok_weaker c.push_block.result (λ h. h ∙ ap (λ u. lexemes c.args.out.now.items ++ print_stmt u) (block_is c.args.s.now c.in-Block.body _ c.in-Block.is c.deref.ensures.value)) c.push_block.ensures

pub push_stmt-returns-in-Empty : goal.push_stmt-returns-in-Empty
push_stmt-returns-in-Empty t c = rw c.in-Empty.is c.mark.ensures

pub push_stmt-returns-in-Simple : goal.push_stmt-returns-in-Simple
push_stmt-returns-in-Simple t c = rw c.in-Simple.is c.push_ended.ensures

pub push_stmt-returns-in-If : goal.push_stmt-returns-in-If
push_stmt-returns-in-If t c = rw (c.in-If.is, ← c.deref-in-If.ensures) c.push_guarded.ensures

pub push_stmt-returns-in-While : goal.push_stmt-returns-in-While
push_stmt-returns-in-While t c = rw (c.in-While.is, ← c.deref-in-While.ensures) c.push_guarded-in-While.ensures

pub push_stmt-returns-in-Do : goal.push_stmt-returns-in-Do
push_stmt-returns-in-Do t c = rw (c.in-Do.is, ← c.deref-in-Do.ensures) c.push_do.ensures

pub push_stmt-returns-in-Jump : goal.push_stmt-returns-in-Jump
push_stmt-returns-in-Jump t c = rw c.in-Jump.is c.push_jump.ensures

pub push_stmt-returns-in-Leave : goal.push_stmt-returns-in-Leave
push_stmt-returns-in-Leave t c = rw c.in-Leave.is c.push_leave.ensures
