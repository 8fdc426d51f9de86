use Rattle.std.proofs.Common.{List, ap, ◌∙◌, arith}
use Rattle.std.specs.declared.vec.Vec.{Vec}
use Rattle.std.specs.declared.alloc.Global.{Global}
use Rattle.wasm_types.specs.declared.instr.Instr.{Instr}
use Rattle.wasm_types.specs.View.{view, views}
use Rattle.wasm_types.proofs.Views.{view_block, view_loop, view_if}
use Rattle.lower_modules.specs.Lengths.{least_in, least_of}
use Rattle.lower_modules.proofs.lengths.+lengths.Goals as goal

pub least_of-returns-in-Block : goal.least_of-returns-in-Block
least_of-returns-in-Block t c =
    let within = ap (λ (is : List Instr). least_in (views is)) (c.deref-in-Block.ensures.value ∙ ap (λ (v : Vec Instr Global). v.items) c.deref.ensures) in
    let whole = ap least_of (ap view c.in-Block.is ∙ view_block c.in-Block.field-0 c.in-Block.inner) in
    let inner = c.least_in.ensures in
    let sum = c.saturating_add.ensures in
    omega (arith, within, whole, inner, sum)

pub least_of-returns-in-Loop : goal.least_of-returns-in-Loop
least_of-returns-in-Loop t c =
    let within = ap (λ (is : List Instr). least_in (views is)) (c.deref-in-Loop-2.ensures.value ∙ ap (λ (v : Vec Instr Global). v.items) c.deref-in-Loop.ensures) in
    let whole = ap least_of (ap view c.in-Loop.is ∙ view_loop c.in-Loop.field-0 c.in-Loop.inner) in
    let inner = c.least_in-in-Loop.ensures in
    let sum = c.saturating_add-in-Loop.ensures in
    omega (arith, within, whole, inner, sum)

pub least_of-returns-in-If : goal.least_of-returns-in-If
least_of-returns-in-If t c =
    let within = ap (λ (is : List Instr). least_in (views is)) (c.deref-in-If-2.ensures.value ∙ ap (λ (v : Vec Instr Global). v.items) c.deref-in-If.ensures) in
    let without = ap (λ (is : List Instr). least_in (views is)) (c.deref-in-If-4.ensures.value ∙ ap (λ (v : Vec Instr Global). v.items) c.deref-in-If-3.ensures) in
    let whole = ap least_of (ap view c.in-If.is ∙ view_if c.in-If.field-0 c.in-If.inner c.in-If.other) in
    let inner = c.least_in-in-If.ensures in
    let other = c.least_in-in-If-2.ensures in
    let both = c.saturating_add-both.ensures in
    let sum = c.saturating_add-in-If.ensures in
    omega (arith, within, without, whole, inner, other, both, sum)
