use Rattle.std.proofs.Common.{ℕ, ◌+◌, List, Bool, drop, ap, sym, ◌∙◌}
use Rattle.std.proofs.lemmas.List.{at_drop_all}
use Rattle.std.specs.declared.vec.Vec.{Vec}
use Rattle.std.specs.declared.alloc.Global.{Global}
use Rattle.awk_resolve.proofs.Names.{drop_at}
use Rattle.wasm_types.specs.Syntax.{Instruction}
use Rattle.wasm_types.specs.declared.instr.Instr.{Instr}
use Rattle.wasm_types.specs.View.{view, views}
use Rattle.wasm_types.proofs.Views.{view_block, view_loop, view_if}
use Rattle.lower_model.specs.Modules.{calls_by, calls_in}
use Rattle.lower_modules.specs.Calls.{noted}
use Rattle.lower_modules.proofs.Noted.{noted_both, noted_none}
use Rattle.lower_modules.proofs.called_imports.+calls.Goals as goal

pub note_calls_by-returns-in-BrTable : goal.note_calls_by-returns-in-BrTable
note_calls_by-returns-in-BrTable t c =
    sym (noted_none c.args.called.now) ∙ ap (λ (x : Instr). noted (λ i. calls_by i (view x)) c.args.called.now) (sym c.in-BrTable.is)

pub note_calls_by-returns-in-Block : goal.note_calls_by-returns-in-Block
note_calls_by-returns-in-Block t c =
    let bs = c.args.called.now in
    let within = c.deref-in-Block.ensures.value ∙ ap (λ (v : Vec Instr Global). v.items) c.deref.ensures in
    c.note_calls_in.ensures ∙ ap (λ (is : List Instr). noted (λ i. calls_in i (views is)) bs) within
    ∙ sym (ap (λ (x : Instruction). noted (λ i. calls_by i x) bs) (ap view c.in-Block.is ∙ view_block c.in-Block.field-0 c.in-Block.inner))

pub note_calls_by-returns-in-Loop : goal.note_calls_by-returns-in-Loop
note_calls_by-returns-in-Loop t c =
    let bs = c.args.called.now in
    let within = c.deref-in-Loop-2.ensures.value ∙ ap (λ (v : Vec Instr Global). v.items) c.deref-in-Loop.ensures in
    c.note_calls_in-in-Loop.ensures ∙ ap (λ (is : List Instr). noted (λ i. calls_in i (views is)) bs) within
    ∙ sym (ap (λ (x : Instruction). noted (λ i. calls_by i x) bs) (ap view c.in-Loop.is ∙ view_loop c.in-Loop.field-0 c.in-Loop.inner))

pub note_calls_by-returns-in-If : goal.note_calls_by-returns-in-If
note_calls_by-returns-in-If t c =
    let bs = c.args.called.now in
    let between = c.note_calls_in-in-If.new.called in
    let f : ℕ → Bool = λ i. calls_in i (views c.in-If.inner.value.items) in
    let g : ℕ → Bool = λ i. calls_in i (views c.in-If.other.value.items) in
    let within = c.deref-in-If-2.ensures.value ∙ ap (λ (v : Vec Instr Global). v.items) c.deref-in-If.ensures in
    let other = c.deref-in-If-4.ensures.value ∙ ap (λ (v : Vec Instr Global). v.items) c.deref-in-If-3.ensures in
    let first = c.note_calls_in-in-If.ensures ∙ ap (λ (is : List Instr). noted (λ i. calls_in i (views is)) bs) within in
    c.note_calls_in-in-If-2.ensures ∙ ap (λ (is : List Instr). noted (λ i. calls_in i (views is)) between) other
    ∙ ap (noted g) first ∙ noted_both f g bs
    ∙ sym (ap (λ (x : Instruction). noted (λ i. calls_by i x) bs) (ap view c.in-If.is ∙ view_if c.in-If.field-0 c.in-If.inner c.in-If.other))

pub note_calls_in-loop-instr-preserved : goal.note_calls_in-loop-instr-preserved
note_calls_in-loop-instr-preserved t c =
    let code = c.args.code.now in
    let at = c.loop-instr.instr-index in
    let bs = c.loop-instr.called in
    let f : ℕ → Bool = λ i. calls_by i (view c.instr-item.result) in
    let g : ℕ → Bool = λ i. calls_in i (views (drop (at + 1) code)) in
    ap (noted g) c.note_calls_by.ensures ∙ noted_both f g bs
    ∙ sym (ap (λ (is : List Instr). noted (λ i. calls_in i (views is)) bs) (drop_at code at c.instr-item.result c.loop-instr-test.true c.instr-item.is))
    ∙ c.loop-instr.invariant

pub note_calls_in-returns : goal.note_calls_in-returns
note_calls_in-returns t c =
    let bs = c.loop-instr.called in
    sym (noted_none bs)
    ∙ sym (at_drop_all (λ (is : List Instr). noted (λ i. calls_in i (views is)) bs) c.args.code.now c.loop-instr.instr-index c.loop-instr-test.false)
    ∙ c.loop-instr.invariant
