use Rattle.std.proofs.Common.{◌≤◌, ◌<◌, Some, List, ap, sym, subst, ◌∙◌, length, get_or, arith}
use Rattle.std.specs.Prelude.{slice_get}
use Rattle.wasm_types.specs.declared.locals.Run.{Run}
use Rattle.wasm_types.specs.declared.types.ValType.{ValType}
use Rattle.wasm_types.specs.Runs.{start_of}
use Rattle.wasm_types.proofs.RunLemmas.{found, not_found}
use Rattle.wasm_types.proofs.locals.Locals.get.Goals as goal

pub returns-then-before-len : goal.returns-then-before-len
returns-then-before-len c =
    let runs = c.self.inside.runs.items in
    let k = c.runs_before-before.result in
    let n = c.args.number in
    let run = c.index.result.now in
    let value = c.deref.ensures.value in
    let size = ap (λ (rs : List Run). length rs) value in
    let inside : k < length runs = (let less = c.if-before-len.true in let all = c.len.ensures in let here = c.deref.ensures.len in omega (arith, less, all, here, size)) in
    let begun = subst (λ (rs : List Run). start_of 0 rs k ≤ n) value c.runs_before-before.ensures.begun in
    let left = subst (λ (rs : List Run). n < (get_or rs k run).end) value (c.runs_before-before.ensures.left run (omega (arith, inside, size))) in
    ap (λ (r : Run). Some r.ty) c.index.ensures ∙ (sym (found runs k n run c.self.invariant inside begun left) ∙ ap (λ (ts : List ValType). slice_get ts n) c.self.view_is)

pub returns-else-before-len : goal.returns-else-before-len
returns-else-before-len c =
    let runs = c.self.inside.runs.items in
    let k = c.runs_before-before.result in
    let n = c.args.number in
    let value = c.deref.ensures.value in
    let size = ap (λ (rs : List Run). length rs) value in
    let over : length runs ≤ k = (let less = c.if-before-len.false in let all = c.len.ensures in let here = c.deref.ensures.len in omega (arith, less, all, here, size)) in
    let within : k ≤ length runs = (let most = c.runs_before-before.ensures.within in omega (arith, most, size)) in
    let begun = subst (λ (rs : List Run). start_of 0 rs k ≤ n) value c.runs_before-before.ensures.begun in
    sym (not_found runs k n c.self.invariant over within begun) ∙ ap (λ (ts : List ValType). slice_get ts n) c.self.view_is
