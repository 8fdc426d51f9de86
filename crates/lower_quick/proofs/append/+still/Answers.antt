use Rattle.std.proofs.Common.{◌≡◌, ◌+◌, Bool, true, drop, map, refl, ap, sym, ◌∙◌, rules}
use Rattle.std.specs.Prelude.{◌&&◌}
use Rattle.mid_program.specs.ViewCode.{joined, view, view_slot}
use Rattle.mid_program.specs.declared.code.Code.{Code}
use Rattle.lower_model.specs.Appends.{is_still}
use Rattle.lower_quick.proofs.Shapes.{do_view, over_view, key_next, key_view}
use Rattle.lower_quick.proofs.append.+still.Goals as goal

pub is_still-returns-in-Do : goal.is_still-returns-in-Do
is_still-returns-in-Do t c =
    c.are_still.ensures
    ∙ ap (is_still (view_slot c.args.slot)) (do_view c.args.code.now c.in-Do.field-0 c.in-Do.operands c.deref.result.now c.in-Do.is c.deref.ensures.value)

pub is_still-returns-in-Over : goal.is_still-returns-in-Over
is_still-returns-in-Over t c =
    c.are_still-in-Over.ensures
    ∙ ap (is_still (view_slot c.args.slot)) (over_view c.args.code.now c.in-Over.field-0 c.in-Over.operands c.deref-in-Over.result.now c.in-Over.is c.deref-in-Over.ensures.value)

pub is_still-returns-then-is_still : goal.is_still-returns-then-is_still
is_still-returns-then-is_still t c =
    let s = view_slot c.args.slot in
    let es = c.deref-then-is_still.result.now in
    let last = c.in-Joined.last.value in
    c.key_still.ensures (view last) (c.is_still-then-is_still.ensures ∙ ap (λ (x : Code). is_still s (view x)) c.deref-then-is_still-2.ensures)
    ∙ ap (λ (z : Bool). z && is_still s (joined (map view es) (view last))) (sym c.if-is_still.true ∙ c.is_still.ensures ∙ ap (λ (x : Code). is_still s (view x)) c.deref-in-Joined.ensures)
    ∙ key_view s c.args.code.now c.in-Joined.first c.in-Joined.others c.in-Joined.last es c.in-Joined.is c.deref-then-is_still.ensures.value

pub is_still-returns-else-is_still : goal.is_still-returns-else-is_still
is_still-returns-else-is_still t c =
    let s = view_slot c.args.slot in
    let es = c.in-Joined.others.items in
    c.if-is_still.false
    ∙ ap (λ (z : Bool). z && is_still s (joined (map view es) (view c.in-Joined.last.value))) (sym c.if-is_still.false ∙ c.is_still.ensures ∙ ap (λ (x : Code). is_still s (view x)) c.deref-in-Joined.ensures)
    ∙ key_view s c.args.code.now c.in-Joined.first c.in-Joined.others c.in-Joined.last es c.in-Joined.is refl

pub key_still-loop-code-preserved : goal.key_still-loop-code-preserved
key_still-loop-code-preserved t c = λ last.
    let s = view_slot c.args.slot in
    let here : true ≡ c.is_still.result = search rules in
    ap (λ (z : Bool). z && is_still s (joined (map view (drop (c.loop-code.code-index + 1) c.args.others.now)) last)) (here ∙ c.is_still.ensures)
    ∙ sym (key_next s c.args.others.now c.loop-code.code-index c.code-item.result last c.loop-code-test.true c.code-item.is)
    ∙ c.loop-code.invariant last
