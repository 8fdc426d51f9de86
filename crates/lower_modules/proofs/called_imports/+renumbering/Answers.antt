use Rattle.std.proofs.Common.{◌≡◌, ◌+◌, List, [], ◌∷◌, ◌++◌, drop, sym, ap, ◌∙◌, arith}
use Rattle.std.proofs.lemmas.List.{at_drop_all}
use Rattle.std.specs.declared.vec.Vec.{Vec}
use Rattle.std.specs.declared.alloc.Global.{Global}
use Rattle.awk_resolve.proofs.Names.{drop_at}
use Rattle.wasm_types.specs.declared.instr.Instr.{Instr, Plain}
use Rattle.std.specs.Vec.{vec_capacity, vec_len}
use Rattle.wasm_types.specs.Syntax as tree
use Rattle.wasm_types.specs.Syntax.{Instruction, Instructions, Then}
use Rattle.wasm_types.specs.View.{view, views}
use Rattle.wasm_types.proofs.Views.{followed_by, view_block, view_loop, view_if}
use Rattle.lower_model.specs.Modules.{renumbered, renumbered_one}
use Rattle.lower_modules.proofs.Pieces.{followed_end, followed_more}
use Rattle.lower_modules.proofs.called_imports.+renumbering.Goals as goal
use Rattle.lower_modules.proofs.called_imports.+renumbering.Goals.{renumbered-in-Plain, renumbered-in_default+in_ok-made-in_default}

pub renumbered-loop-instr-preserved : goal.renumbered-loop-instr-preserved
renumbered-loop-instr-preserved t c =
    let bs = c.args.numbers.now.called.now in
    let code = c.args.code.now in
    let i = c.loop-instr.instr-index in
    let old = c.loop-instr.out.items in
    let item = c.instr-item.result in
    let rest = renumbered bs (views (drop (i + 1) code)) in
    let told = c.loop-instr.invariant in
    let before : followed_by (views old) (Then (renumbered_one bs (view item)) rest) ≡ renumbered bs (views code) =
    sym (ap (λ (is : List Instr). followed_by (views old) (renumbered bs (views is))) (drop_at code i item c.loop-instr-test.true c.instr-item.is)) ∙ told.code in
    let added : (new : List Instr) (made : Instr) → new ≡ old ++ made ∷ [] → view made ≡ renumbered_one bs (view item) → followed_by (views new) rest ≡ renumbered bs (views code) =
    λ new made e v. ap (λ (is : List Instr). followed_by (views is) rest) e ∙ followed_more old made rest ∙ ap (λ (a : Instruction). followed_by (views old) (Then a rest)) v ∙ before in
    elim c.match-instr.branch [
      | renumbered-in-Plain w ↦
          let pushed = w.push_reserved.ensures in
          let made = Plain w.renumbered_simple.result in
          let viewed : view made ≡ renumbered_one bs (view item) = ap tree.Plain w.renumbered_simple.ensures ∙ sym (ap (λ (x : Instr). renumbered_one bs (view x)) w.in-Plain.is) in
          let items = ap (λ (v : Vec Instr Global). v.items) w.out-is in
          let len = ap (λ (v : Vec Instr Global). vec_len v) w.out-is in
          let capacity = ap (λ (v : Vec Instr Global). vec_capacity v) w.out-is in
          record {
            code = added c.match-instr.out.items made (items ∙ pushed.items) viewed;
            count = omega (arith, len, pushed.len, told.count);
            room = omega (arith, capacity, pushed.capacity, told.room);
          }
      | renumbered-in_default+in_ok-made-in_default w ↦
          let pushed = w.push_reserved-in_default.ensures in
          let items = ap (λ (v : Vec Instr Global). v.items) w.out-is in
          let len = ap (λ (v : Vec Instr Global). vec_len v) w.out-is in
          let capacity = ap (λ (v : Vec Instr Global). vec_capacity v) w.out-is in
          record {
            code = added c.match-instr.out.items w.in_ok-made-in_default.made (items ∙ pushed.items) w.in_ok-made-in_default.ensures;
            count = omega (arith, len, pushed.len, told.count);
            room = omega (arith, capacity, pushed.capacity, told.room);
          }
    ]

pub renumbered-returns : goal.renumbered-returns
renumbered-returns t c =
    let old = c.loop-instr.out.items in
    ap (λ (v : Vec Instr Global). views v.items) c.in_ok-new.ensures.ok ∙ sym (followed_end old)
    ∙ sym (at_drop_all (λ (is : List Instr). followed_by (views old) (renumbered c.args.numbers.now.called.now (views is))) c.args.code.now c.loop-instr.instr-index c.loop-instr-test.false)
    ∙ c.loop-instr.invariant.code

pub renumbered_one-returns-in_ok-renumbered-in-Block : goal.renumbered_one-returns-in_ok-renumbered-in-Block
renumbered_one-returns-in_ok-renumbered-in-Block t c =
    let bs = c.args.numbers.now.called.now in
    let within = c.deref-in-Block-2.ensures.value ∙ ap (λ (v : Vec Instr Global). v.items) c.deref-in-Block.ensures in
    let inner = c.in_ok-renumbered-in-Block.ensures ∙ ap (λ (is : List Instr). renumbered bs (views is)) within in
    view_block c.in-Block.kind c.in_ok-renumbered-in-Block.field-0 ∙ ap (tree.Block c.in-Block.kind) inner
    ∙ sym (ap (renumbered_one bs) (ap view c.in-Block.is ∙ view_block c.in-Block.kind c.in-Block.inner))

pub renumbered_one-returns-in_ok-renumbered-in-Loop : goal.renumbered_one-returns-in_ok-renumbered-in-Loop
renumbered_one-returns-in_ok-renumbered-in-Loop t c =
    let bs = c.args.numbers.now.called.now in
    let within = c.deref-in-Loop-2.ensures.value ∙ ap (λ (v : Vec Instr Global). v.items) c.deref-in-Loop.ensures in
    let inner = c.in_ok-renumbered-in-Loop.ensures ∙ ap (λ (is : List Instr). renumbered bs (views is)) within in
    view_loop c.in-Loop.kind c.in_ok-renumbered-in-Loop.field-0 ∙ ap (tree.Loop c.in-Loop.kind) inner
    ∙ sym (ap (renumbered_one bs) (ap view c.in-Loop.is ∙ view_loop c.in-Loop.kind c.in-Loop.inner))

pub renumbered_one-returns-in_ok-renumbered_other-in-If : goal.renumbered_one-returns-in_ok-renumbered_other-in-If
renumbered_one-returns-in_ok-renumbered_other-in-If t c =
    let bs = c.args.numbers.now.called.now in
    let first = c.deref-in-If-2.ensures.value ∙ ap (λ (v : Vec Instr Global). v.items) c.deref-in-If.ensures in
    let inner = c.in_ok-inner-in-If.ensures ∙ ap (λ (is : List Instr). renumbered bs (views is)) first in
    let other = c.in_ok-renumbered_other-in-If.ensures in
    view_if c.in-If.kind c.in_ok-inner-in-If.inner c.in_ok-renumbered_other-in-If.field-0 ∙ (λ i. tree.If c.in-If.kind (inner i) (other i))
    ∙ sym (ap (renumbered_one bs) (ap view c.in-If.is ∙ view_if c.in-If.kind c.in-If.inner c.in-If.other))
