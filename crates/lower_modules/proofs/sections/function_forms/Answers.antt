use Rattle.std.proofs.Common.{◌≡◌, ℕ, suc, ◌+◌, ◌∷◌, List, map, drop, ap, ◌∙◌, arith}
use Rattle.std.proofs.lemmas.List.{drop_all}
use Rattle.awk_resolve.proofs.Names.{drop_at}
use Rattle.wasm_types.specs.Syntax.{FuncForm}
use Rattle.wasm_types.specs.View.{view_func, views}
use Rattle.lower_model.specs.Modules.{functions_from, renumbered}
use Rattle.latched.proofs.LatchedLemmas.{adds_one, leads_all, leads_first, leads_next}
use Rattle.lower_modules.specs.View.{view_functions}
use Rattle.lower_modules.specs.declared.function.Function.{Function}
use Rattle.lower_modules.proofs.sections.function_forms.Goals as goal

pub loop-function-init : goal.loop-function-init
loop-function-init c = record {
  forms = leads_first view_func c.new-all.result (functions_from c.args.numbers.now.called.now c.args.first (view_functions c.args.functions.now)) (ap (map view_func) c.new-all.ensures.items);
  ty = omega arith;
}

pub loop-function-preserved : goal.loop-function-preserved
loop-function-preserved c =
    let called = c.args.numbers.now.called.now in
    let fs = c.args.functions.now in
    let i = c.loop-function.function-index in
    let f = c.function-item.result in
    let ty = c.loop-function.ty in
    let form : FuncForm = record { ty = ty; locals = f.locals.items; body = renumbered called (views f.body.items) } in
    let next : suc ty ≡ ty + 1 = omega arith in
    let same = c.loop-function.invariant.ty in
    record {
      forms = leads_next view_func (functions_from called ty (view_functions (drop i fs)))
          (ap (λ (gs : List Function). functions_from called ty (view_functions gs)) (drop_at fs i f c.loop-function-test.true c.function-item.is) ∙ ap (λ (n : ℕ). form ∷ functions_from called n (view_functions (drop (i + 1) fs))) next)
          c.loop-function.invariant.forms (adds_one view_func c.function_form.result form c.push_made.ensures.added c.function_form.ensures);
      ty = omega (arith, same);
    }

pub returns : goal.returns
returns c =
    let fs = c.args.functions.now in
    let i = c.loop-function.function-index in
    let forms : List Function → List FuncForm = λ gs. functions_from c.args.numbers.now.called.now c.loop-function.ty (view_functions gs) in
    leads_all view_func {b = c.loop-function.all} (forms (drop i fs)) c.into_vec.result (ap forms (drop_all i fs c.loop-function-test.false)) c.loop-function.invariant.forms c.into_vec.ensures.all
