use Rattle.std.proofs.Common.{◌≡◌, ◌++◌, drop}
use Rattle.awk_grammar.specs.Stmt.{print_stmts}
use Rattle.awk_tree.specs.Lexemes.{lexemes}
use Rattle.awk_grammar.specs.ViewStmt.{view_stmts}
use Rattle.awk_tree.proofs.printer_stmt.+printer_stmt.Given as goal

abbrev pub invariant-push_stmts-loop-s : goal.invariant-push_stmts-loop-s
invariant-push_stmts-loop-s l = lexemes l.out.items ++ print_stmts (view_stmts (drop l.s-index l.body)) ≡ lexemes l.fn.out.items ++ print_stmts (view_stmts l.body)
