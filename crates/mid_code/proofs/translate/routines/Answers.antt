use Rattle.std.proofs.Common.{◌+◌, ◌<◌, List, ◌∷◌, drop, length, map, ap, sym, ◌∙◌, arith}
use Rattle.awk_resolve.specs.ViewFunctions.{view_functions}
use Rattle.awk_resolve.specs.ViewKinds.{view_name_kinds}
use Rattle.awk_resolve.specs.declared.function_names.FunctionNames.{FunctionNames}
use Rattle.awk_resolve.specs.declared.function_names.NameKind.{NameKind}
use Rattle.awk_resolve.proofs.Names.{drop_at}
use Rattle.awk_grammar.specs.Trees.{Stmts}
use Rattle.awk_grammar.specs.ViewStmt.{view_stmts}
use Rattle.sem_scripts.specs.Kinds.{with_bodies}
use Rattle.mid_program.specs.Mid.{Routine as PlainRoutine}
use Rattle.mid_program.specs.Translation.{routine_code}
use Rattle.mid_program.specs.View.{view_routine, view_texts}
use Rattle.mid_code.specs.ViewNames.{script_of, view_bodies}
use Rattle.mid_code.specs.ViewScope.{scope_of, texts_of}
use Rattle.mid_code.proofs.BodyParts.{first_body, pushed}
use Rattle.mid_code.proofs.translate.routines.Goals as goal

pub loop-i-preserved : goal.loop-i-preserved
unfolding scope_of texts_of
loop-i-preserved c =
    let fs = c.args.names.now.resolved.now.functions.items in
    let bs = c.args.bodies.now in
    let i = c.loop-i.i in
    let f : FunctionNames = c.index-function.result.now in
    let lt : i < length fs = omega arith in
    let found = c.loop-i.found.items in
    let code = routine_code (view_texts c.args.texts.now.keys) (script_of c.args.names.now.resolved.now) in
    let left = with_bodies (view_functions (drop (i + 1) fs)) (view_bodies (drop (i + 1) bs)) in
    pushed view_routine found _ c.in_ok-routine.field-0 (map code left) _ _ c.in_ok-push.ensures.items
    (ap (λ (q : PlainRoutine). q ∷ map code left)
    (c.in_ok-routine.ensures
    ∙ ap (λ (ps : List NameKind). code (record { name = f.name.now; parameters = view_name_kinds ps; body = view_stmts c.body_at.result.now })) c.deref.ensures.value
    ∙ ap (λ (ss : Stmts). code (record { name = f.name.now; parameters = view_name_kinds f.parameters.items; body = ss })) c.body_at.ensures)
    ∙ sym (ap (map code)
    (ap (λ (xs : List FunctionNames). with_bodies (view_functions xs) (view_bodies (drop i bs))) (drop_at fs i f lt c.index-function.ensures) ∙ first_body f (drop (i + 1) fs) bs i)))
    c.loop-i.invariant
