use Rattle.std.specs.Borrow.{Bor}
use Rattle.std.proofs.Common.{List, ap, ◌∙◌}
use Rattle.awk_grammar.specs.ViewStmt.{view_stmts}
use Rattle.awk_grammar.specs.declared.tree.Stmt.{Stmt}
use Rattle.mid_code.proofs.BodyParts.{body_is, body_past}
use Rattle.mid_code.proofs.bodies.body_at.Goals as goal

pub returns-in-Some : goal.returns-in-Some
returns-in-Some c =
    ap (λ (b : Bor (List Stmt)). view_stmts b.now) c.in-Some.ensures.lookup.1 ∙ body_is c.args.bodies.now c.args.function c.in-Some.body.now c.in-Some.ensures.lookup.3.0

pub returns-in-None : goal.returns-in-None
returns-in-None c = body_past c.args.bodies.now c.args.function c.in-None.ensures.lookup.3
