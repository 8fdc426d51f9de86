use Rattle.std.proofs.Common.{◌≡◌, ◌++◌, drop}
use Rattle.awk_grammar.specs.Stmt.{print_stmts}
use Rattle.awk_tree.specs.Lexemes.{lexemes}
use Rattle.awk_grammar.specs.ViewStmt.{view_stmts}
use Rattle.awk_tree.specs.Lines.{stmts_places}
use Rattle.awk_tree.proofs.lines.statements.+walk.Given as goal

abbrev pub invariant-statements-loop-s : goal.invariant-statements-loop-s
invariant-statements-loop-s l =
    (lexemes l.tokens.items ++ print_stmts (view_stmts (drop l.s-index l.body)) ≡ lexemes l.fn.tokens.items ++ print_stmts (view_stmts l.body))
    × (l.places.items ++ stmts_places (lexemes l.tokens.items) (view_stmts (drop l.s-index l.body)) ≡ l.fn.places.items ++ stmts_places (lexemes l.fn.tokens.items) (view_stmts l.body))
