use Rattle.std.proofs.Common.{ℕ, ◌+◌, List, Bool, drop, ap, sym, ◌∙◌}
use Rattle.std.proofs.lemmas.List.{at_drop_all}
use Rattle.awk_resolve.proofs.Names.{drop_at}
use Rattle.wasm_types.specs.declared.instr.Instr.{Instr}
use Rattle.wasm_types.specs.View.{views}
use Rattle.lower_model.specs.Modules.{any_calls, calls_in}
use Rattle.lower_modules.specs.Calls.{noted}
use Rattle.lower_modules.specs.View.{view_functions}
use Rattle.lower_modules.specs.declared.function.Function.{Function}
use Rattle.lower_modules.proofs.Noted.{noted_both, noted_none}
use Rattle.lower_modules.proofs.called_imports.called_imports.Goals as goal

pub loop-function-preserved : goal.loop-function-preserved
loop-function-preserved c =
    let fs = c.args.functions.now in
    let at = c.loop-function.function-index in
    let bs = c.loop-function.called in
    let f : ℕ → Bool = λ i. calls_in i (views c.function-item.result.body.items) in
    let g : ℕ → Bool = λ i. any_calls i (view_functions (drop (at + 1) fs)) in
    ap (noted g) (c.note_calls_in.ensures ∙ ap (λ (is : List Instr). noted (λ i. calls_in i (views is)) bs) c.deref.ensures.value) ∙ noted_both f g bs
    ∙ sym (ap (λ (xs : List Function). noted (λ i. any_calls i (view_functions xs)) bs) (drop_at fs at c.function-item.result c.loop-function-test.true c.function-item.is))
    ∙ c.loop-function.invariant

pub returns : goal.returns
returns c =
    let bs = c.loop-function.called in
    sym (noted_none bs)
    ∙ sym (at_drop_all (λ (xs : List Function). noted (λ i. any_calls i (view_functions xs)) bs) c.args.functions.now c.loop-function.function-index c.loop-function-test.false)
    ∙ c.loop-function.invariant
