use Rattle.std.proofs.Common.{List, ◌∷◌, ◌++◌, ap, sym, ◌∙◌}
use Rattle.std.proofs.lemmas.Result.{on_ok_weaker}
use Rattle.std.specs.Borrow.{Bor}
use Rattle.awk_grammar.specs.ViewStmt.{view_item, view_stmts}
use Rattle.awk_grammar.specs.declared.tree.Item.{Item}
use Rattle.awk_grammar.specs.declared.tree.Stmt.{Stmt}
use Rattle.sem_scripts.specs.Kinds.{bodies}
use Rattle.mid_code.specs.ViewNames.{view_bodies}
use Rattle.mid_code.proofs.BodyParts.{map_push}
use Rattle.mid_code.proofs.bodies.push_body.Goals as goal

pub returns-in-Function : goal.returns-in-Function
returns-in-Function c =
    let old = c.args.found.now.items in
    on_ok_weaker c.push.result (λ h items. ap (λ (bs : List (Bor (List Stmt))). view_bodies bs ++ bodies items) h
    ∙ map_push (λ (b : Bor (List Stmt)). view_stmts b.now) old c.as_slice.result (bodies items)
    ∙ ap (λ (ss : List Stmt). view_bodies old ++ (view_stmts ss ∷ bodies items)) c.as_slice.ensures.value
    ∙ sym (ap (λ (it : Item). view_bodies old ++ bodies (view_item it ∷ items)) c.in-Function.is)) c.push.ensures.items
