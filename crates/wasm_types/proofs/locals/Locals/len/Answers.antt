use Rattle.std.proofs.Common.{List, length, ap, ◌∙◌, arith}
use Rattle.wasm_types.specs.declared.types.ValType.{ValType}
use Rattle.wasm_types.specs.Runs.{past_all}
use Rattle.wasm_types.proofs.RunLemmas.{how_many}
use Rattle.wasm_types.proofs.locals.Locals.len.Goals as goal

pub returns-clause-count : goal.returns-clause-count
returns-clause-count c =
    let runs = c.self.inside.runs.items in
    let many = how_many 0 runs c.self.invariant in
    let here = ap (λ (ts : List ValType). length ts) c.self.view_is in
    let all = c.past_all.ensures ∙ ap (past_all 0) c.deref.ensures.value in
    omega (arith, many, here, all)
