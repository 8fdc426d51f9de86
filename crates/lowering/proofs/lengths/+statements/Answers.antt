use Rattle.std.proofs.Common.{◌≡◌, ℕ, ◌+◌, ◌<◌, List, drop, get_or, length, refl, ap, sym, ◌∙◌, arith}
use Rattle.std.proofs.lemmas.List.{at_drop_all, at_drop_more}
use Rattle.mid_program.specs.Mid as plain
use Rattle.mid_program.specs.ViewCode.{view_step, view_steps}
use Rattle.mid_program.specs.declared.step.Step.{Step}
use Rattle.lower_quick.proofs.Views.{view_block}
use Rattle.lowering.specs.Lengths.{statements_at, statements_in}
use Rattle.lowering.proofs.lengths.+statements.Goals as goal

next_statements : (ss : List Step) (i : ℕ) (s : Step) → i < length ss → s ≡ get_or ss i s → statements_in (view_steps (drop i ss)) ≡ statements_at (view_step s) + statements_in (view_steps (drop (i + 1) ss))
next_statements ss i s lt at =
    at_drop_more (λ (xs : List Step). statements_in (view_steps xs)) ss i s lt
    ∙ ap (λ (x : Step). statements_at (view_step x) + statements_in (view_steps (drop (i + 1) ss))) (sym at)

pub left_after-returns-in-Block : goal.left_after-returns-in-Block
left_after-returns-in-Block t c =
    let inside = c.left_after_all.ensures in
    let held = ap (λ (ss : List Step). statements_in (view_steps ss)) c.deref.ensures.value in
    let whole = ap (λ (s : plain.Step). statements_at s) (ap view_step c.in-Block.is ∙ view_block c.in-Block.steps) in
    let first = c.saturating_sub-left.ensures in
    omega (arith, inside, held, whole, first)

pub left_after_all-loop-step-init : goal.left_after_all-loop-step-init
left_after_all-loop-step-init t c = refl

pub left_after_all-loop-step-preserved : goal.left_after_all-loop-step-preserved
left_after_all-loop-step-preserved t c =
    let more = next_statements c.args.steps.now c.loop-step.step-index c.step-item.result c.loop-step-test.true c.step-item.is in
    let one = c.left_after-left.ensures in
    let before = c.loop-step.invariant in
    omega (arith, more, one, before)

pub left_after_all-returns : goal.left_after_all-returns
left_after_all-returns t c =
    let none = at_drop_all (λ (ss : List Step). statements_in (view_steps ss)) c.args.steps.now c.loop-step.step-index c.loop-step-test.false in
    let before = c.loop-step.invariant in
    omega (arith, none, before)
