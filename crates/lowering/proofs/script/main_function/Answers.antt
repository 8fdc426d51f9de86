use Rattle.std.proofs.Common.{◌<◌, ap, map, subst, sym, ◌∙◌}
use Rattle.wasm_types.specs.declared.types.ValType.TheVariants.{I32}
use Rattle.mid_program.specs.View.{view_kind, view_mid}
use Rattle.lower_model.specs.Functions.{layout_of, main_bases}
use Rattle.lower_model.specs.Places.{Bases, local_types}
use Rattle.lower_model.specs.Statements.{main_body}
use Rattle.lowering.specs.StepFits.{PartsFit}
use Rattle.lower_modules.specs.Lengths.{least_in}
use Rattle.lower_modules.specs.Limits.{most_bytes}
use Rattle.lowering.proofs.Smallness.{main_fits}
use Rattle.lowering.proofs.script.main_function.Goals as goal

pub is_too_long-requires : goal.is_too_long-requires
is_too_long-requires c =
    let p = view_mid c.args.layout.now.program.now in
    subst (λ (b : Bases). PartsFit (layout_of p b) p) (sym (c.bases-bases.ensures ∙ c.in-Some.ensures.0)) (main_fits p c.args.layout.now.small c.requires.few c.in-Some.ensures.1 c.requires.sorted)

pub returns-then-branch-clause-too_large : goal.returns-then-branch-clause-too_large
returns-then-branch-clause-too_large c = λ e small.
    let p = view_mid c.args.layout.now.program.now in
    subst (λ (b : Bases). most_bytes < least_in (main_body (layout_of p b) p)) (c.bases-bases.ensures ∙ c.in-Some.ensures.0) (c.in_ok-is_too_long.ensures c.if-branch.true)

pub main_code-requires-clause-fit : goal.main_code-requires-clause-fit
main_code-requires-clause-fit c =
    let p = view_mid c.args.layout.now.program.now in
    subst (λ (b : Bases). PartsFit (layout_of p b) p) (sym (c.bases-bases.ensures ∙ c.in-Some.ensures.0)) (main_fits p c.args.layout.now.small c.requires.few c.in-Some.ensures.1 c.requires.sorted)

pub returns-clause-function : goal.returns-clause-function
returns-clause-function c =
    let p = view_mid c.args.layout.now.program.now in
    let kinds = c.new.ensures.items in
    let locals = c.in_ok-locals.ensures ∙ ap local_types c.in-Some.ensures.0 in
    let body = c.in_ok-body.ensures ∙ ap (λ (b : Bases). main_body (layout_of p b) p) (c.bases-bases.ensures ∙ c.in-Some.ensures.0) in
    λ i. record { kinds = map view_kind (kinds i); locals = locals i; answer = I32; body = body i }
