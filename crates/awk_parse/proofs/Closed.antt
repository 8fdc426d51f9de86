-- A statement with others within.
use Rattle.std.proofs.Common.{◌≡◌, Option, Some, sym, subst, ◌∙◌}
use Rattle.std.specs.declared.boxed.Box.{Box}
use Rattle.std.specs.declared.alloc.Global.{Global}
use Rattle.awk_grammar.specs.Reading.{Reader}
use Rattle.awk_grammar.specs.Trees.{Stmt, IfElse}
use Rattle.awk_grammar.specs.View.{view}
use Rattle.awk_grammar.specs.ViewStmt.{view_stmt}
use Rattle.awk_grammar.specs.declared.tree.Expr.{Expr}
use Rattle.awk_grammar.specs.declared.tree.Stmt.{Stmt as ScriptStmt}
use Rattle.awk_parse.specs.declared.head.Head.{Head}
use Rattle.awk_parse.specs.declared.head.Lead.{Lead}
use Rattle.awk_parse.specs.Bodies.{view_boxed, view_head, view_lead, closed_at}
use Rattle.awk_parse.specs.Parsed.{At, Parsed, is_read}

pub closes : (expr : Reader) (given held l : Lead) (body : Option (Box ScriptStmt Global)) (b : Box ScriptStmt Global) (s : Stmt) (s0 s1 : At) → (held ≡ given) × (body ≡ Some b) → held ≡ l → Parsed s s0 s1 (closed_at expr (view_lead l) (view_stmt b.value)) → Parsed s s0 s1 (closed_at expr (view_lead given) (view_boxed body))
closes expr given held l body b s s0 s1 h e w = rw (sym h.0 ∙ e, h.1) w

pub closes_counted : (expr : Reader) (taken given : Head) (b s : Stmt) (s0 s1 : At) → taken ≡ given → Parsed s s0 s1 (closed_at expr (view_head taken) b) → Parsed s s0 s1 (closed_at expr (view_head given) b)
closes_counted expr taken given b s s0 s1 e w = subst (λ (h : Head). Parsed s s0 s1 (closed_at expr (view_head h) b)) e w

pub chooses : (given test : Expr) (then : Option (Box ScriptStmt Global)) (first : Box ScriptStmt Global) (o s : Stmt) (s0 s1 : At) → (test ≡ given) × (then ≡ Some first) → Parsed s s0 s1 (is_read (IfElse (view test) (view_stmt first.value) o))
    → Parsed s s0 s1 (is_read (IfElse (view given) (view_boxed then) o))
chooses given test then first o s s0 s1 h w = rw (sym h.0, h.1) w
