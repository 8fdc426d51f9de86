use Rattle.std.proofs.Common.{◌+◌, ◌∙◌, ◌||◌, List, Bool, ap, sym, arith}
use Rattle.std.specs.declared.vec.Vec.{Vec}
use Rattle.std.specs.declared.alloc.Global.{Global}
use Rattle.wasm_types.specs.declared.instr.Instr.{Instr}
use Rattle.wasm_types.specs.Instructions.{depth, depths}
use Rattle.wasm_types.specs.View.{view, views}
use Rattle.wasm_types.proofs.Views.{view_block, view_loop, view_if}
use Rattle.module_validator.specs.Checks.{context_of}
use Rattle.module_validator.specs.Faults.{any_in, any_of, faulty}
use Rattle.module_validator.proofs.Sought.{passed_deep, passed_more}
use Rattle.module_validator.proofs.checker.Scope.+search.Goals as goal

pub is_at_fault-has-requires : goal.is_at_fault-has-requires
is_at_fault-has-requires t c =
    let within = c.deref-in-Block-2.ensures.value ∙ ap (λ (v : Vec Instr Global). v.items) c.deref-in-Block.ensures in
    let deep = ap depth (ap view c.in-Block.is ∙ view_block c.in-Block.field-0 c.in-Block.inner) in
    let same = ap (λ (is : List Instr). depths (views is)) within in
    let bound = c.requires in
    (omega (arith, deep, same, c.decreases), omega (arith, deep, same, bound))

pub is_at_fault-has-requires-in-Loop : goal.is_at_fault-has-requires-in-Loop
is_at_fault-has-requires-in-Loop t c =
    let within = c.deref-in-Loop-2.ensures.value ∙ ap (λ (v : Vec Instr Global). v.items) c.deref-in-Loop.ensures in
    let deep = ap depth (ap view c.in-Loop.is ∙ view_loop c.in-Loop.field-0 c.in-Loop.inner) in
    let same = ap (λ (is : List Instr). depths (views is)) within in
    let bound = c.requires in
    (omega (arith, deep, same, c.decreases), omega (arith, deep, same, bound))

pub is_at_fault-has-requires-in-If : goal.is_at_fault-has-requires-in-If
is_at_fault-has-requires-in-If t c =
    let within = c.deref-in-If-2.ensures.value ∙ ap (λ (v : Vec Instr Global). v.items) c.deref-in-If.ensures in
    let deep = ap depth (ap view c.in-If.is ∙ view_if c.in-If.field-0 c.in-If.inner c.in-If.other) in
    let same = ap (λ (is : List Instr). depths (views is)) within in
    let bound = c.requires in
    (omega (arith, deep, same, c.decreases), omega (arith, deep, same, bound))

pub is_at_fault-has-requires-else-has : goal.is_at_fault-has-requires-else-has
is_at_fault-has-requires-else-has t c =
    let within = c.deref-else-has-2.ensures.value ∙ ap (λ (v : Vec Instr Global). v.items) c.deref-else-has.ensures in
    let deep = ap depth (ap view c.in-If.is ∙ view_if c.in-If.field-0 c.in-If.inner c.in-If.other) in
    let same = ap (λ (is : List Instr). depths (views is)) within in
    let bound = c.requires in
    (omega (arith, deep, same, c.decreases), omega (arith, deep, same, bound))

pub is_at_fault-returns-in-Block : goal.is_at_fault-returns-in-Block
is_at_fault-returns-in-Block t c =
    let P = faulty (context_of c.args.self.now) c.args.sought in
    let within = c.deref-in-Block-2.ensures.value ∙ ap (λ (v : Vec Instr Global). v.items) c.deref-in-Block.ensures in
    c.has.ensures ∙ (ap (λ (is : List Instr). any_in P (c.args.labels + 1) (views is)) within ∙ sym (ap (any_of P c.args.labels) (ap view c.in-Block.is ∙ view_block c.in-Block.field-0 c.in-Block.inner)))

pub is_at_fault-returns-in-Loop : goal.is_at_fault-returns-in-Loop
is_at_fault-returns-in-Loop t c =
    let P = faulty (context_of c.args.self.now) c.args.sought in
    let within = c.deref-in-Loop-2.ensures.value ∙ ap (λ (v : Vec Instr Global). v.items) c.deref-in-Loop.ensures in
    c.has-in-Loop.ensures ∙ (ap (λ (is : List Instr). any_in P (c.args.labels + 1) (views is)) within ∙ sym (ap (any_of P c.args.labels) (ap view c.in-Loop.is ∙ view_loop c.in-Loop.field-0 c.in-Loop.inner)))

pub is_at_fault-returns-then-has : goal.is_at_fault-returns-then-has
is_at_fault-returns-then-has t c =
    let P = faulty (context_of c.args.self.now) c.args.sought in
    let within = c.deref-in-If-2.ensures.value ∙ ap (λ (v : Vec Instr Global). v.items) c.deref-in-If.ensures in
    let first = sym (c.has-in-If.ensures ∙ ap (λ (is : List Instr). any_in P (c.args.labels + 1) (views is)) within) ∙ c.if-has.true in
    c.if-has.true ∙ sym (ap (any_of P c.args.labels) (ap view c.in-If.is ∙ view_if c.in-If.field-0 c.in-If.inner c.in-If.other) ∙ ap (λ (b : Bool). b || any_in P (c.args.labels + 1) (views c.in-If.other.value.items)) first)

pub is_at_fault-returns-else-has : goal.is_at_fault-returns-else-has
is_at_fault-returns-else-has t c =
    let P = faulty (context_of c.args.self.now) c.args.sought in
    let within = c.deref-in-If-2.ensures.value ∙ ap (λ (v : Vec Instr Global). v.items) c.deref-in-If.ensures in
    let other = c.deref-else-has-2.ensures.value ∙ ap (λ (v : Vec Instr Global). v.items) c.deref-else-has.ensures in
    let first = sym (c.has-in-If.ensures ∙ ap (λ (is : List Instr). any_in P (c.args.labels + 1) (views is)) within) ∙ c.if-has.false in
    let second = c.has-else-has.ensures ∙ ap (λ (is : List Instr). any_in P (c.args.labels + 1) (views is)) other in
    second ∙ sym (ap (any_of P c.args.labels) (ap view c.in-If.is ∙ view_if c.in-If.field-0 c.in-If.inner c.in-If.other) ∙ ap (λ (b : Bool). b || any_in P (c.args.labels + 1) (views c.in-If.other.value.items)) first)

pub has-is_at_fault-requires : goal.has-is_at_fault-requires
has-is_at_fault-requires t c =
    let deep = passed_deep (faulty (context_of c.args.self.now) c.args.sought) c.args.labels c.args.code.now c.loop-i.i-index c.i-item.result c.loop-i-test.true c.i-item.is c.loop-i.invariant in
    let bound = c.requires in
    (omega (arith, deep, c.decreases), omega (arith, deep, bound))

pub has-loop-i-preserved : goal.has-loop-i-preserved
has-loop-i-preserved t c = passed_more (faulty (context_of c.args.self.now) c.args.sought) c.args.labels c.args.code.now c.loop-i.i-index c.i-item.result c.loop-i-test.true c.i-item.is c.loop-i.invariant (sym c.is_at_fault.ensures ∙ c.if-is_at_fault.false)
