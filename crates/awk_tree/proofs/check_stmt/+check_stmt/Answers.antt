use Rattle.std.proofs.Common.{List, ap, sym, ◌∙◌}
use Rattle.awk_grammar.specs.declared.tree.Stmt.{Stmt}
use Rattle.awk_grammar.specs.WellFormed.{is_stmt, are_stmts}
use Rattle.awk_grammar.specs.ViewStmt.{view_stmt, view_stmts}
use Rattle.awk_grammar.proofs.Views.{view_block}
use Rattle.awk_tree.proofs.check_stmt.+check_stmt.Goals as goal

pub is_statement-returns-in-Block : goal.is_statement-returns-in-Block
is_statement-returns-in-Block t c =
    c.are_statements.ensures ∙ ap (λ (ss : List Stmt). are_stmts (view_stmts ss)) c.deref.ensures.value
    ∙ sym (ap is_stmt (ap view_stmt c.in-Block.is ∙ view_block c.in-Block.body))
