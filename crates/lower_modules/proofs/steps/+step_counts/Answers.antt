use Rattle.std.proofs.Common.{◌≡◌, suc, Bool, List, ap, sym, ◌∙◌, arith, rules}
use Rattle.std.specs.Prelude.{is_some}
use Rattle.mid_program.specs.Mid as plain
use Rattle.mid_program.specs.ViewCode.{view, view_step, view_steps}
use Rattle.mid_program.specs.declared.step.Step.{Step}
use Rattle.lower_model.specs.Quick.{pair_in, step_jumps}
use Rattle.lower_model.specs.Places.{step_arrays, step_iterators, step_room, steps_arrays, steps_iterators, steps_room}
use Rattle.lower_modules.specs.Counted.{counted}
use Rattle.lower_modules.specs.Labels.{choice_labels, labels_in, loop_labels, more_if, step_labels, steps_labels}
use Rattle.lower_quick.proofs.Views.{view_block}
use Rattle.lower_modules.proofs.steps.+step_counts.Goals as goal

pub step_counts-returns-in-Block-clause-temporaries : goal.step_counts-returns-in-Block-clause-temporaries
step_counts-returns-in-Block-clause-temporaries t c =
    c.steps_counts.ensures.temporaries ∙ ap (λ (ss : List Step). counted (steps_room (view_steps ss))) c.deref.ensures.value
    ∙ sym (ap (λ (s : plain.Step). counted (step_room s)) (ap view_step c.in-Block.is ∙ view_block c.in-Block.steps))

pub step_counts-returns-in-Block-clause-arrays : goal.step_counts-returns-in-Block-clause-arrays
step_counts-returns-in-Block-clause-arrays t c =
    c.steps_counts.ensures.arrays ∙ ap (λ (ss : List Step). counted (steps_arrays (view_steps ss))) c.deref.ensures.value
    ∙ sym (ap (λ (s : plain.Step). counted (step_arrays s)) (ap view_step c.in-Block.is ∙ view_block c.in-Block.steps))

pub step_counts-returns-in-Block-clause-iterators : goal.step_counts-returns-in-Block-clause-iterators
step_counts-returns-in-Block-clause-iterators t c =
    c.steps_counts.ensures.iterators ∙ ap (λ (ss : List Step). counted (steps_iterators (view_steps ss))) c.deref.ensures.value
    ∙ sym (ap (λ (s : plain.Step). counted (step_iterators s)) (ap view_step c.in-Block.is ∙ view_block c.in-Block.steps))

pub step_counts-returns-in-Block-clause-labels : goal.step_counts-returns-in-Block-clause-labels
step_counts-returns-in-Block-clause-labels t c =
    c.steps_counts.ensures.labels ∙ ap (λ (ss : List Step). counted (steps_labels (view_steps ss))) c.deref.ensures.value
    ∙ sym (ap (λ (s : plain.Step). counted (step_labels s)) (ap view_step c.in-Block.is ∙ view_block c.in-Block.steps))

pub step_counts-returns-in-If-clause-temporaries : goal.step_counts-returns-in-If-clause-temporaries
step_counts-returns-in-If-clause-temporaries t c =
    let a = c.counts_in-in-If.ensures.temporaries in
    let b = c.step_counts.ensures.temporaries ∙ ap (λ (s : Step). counted (step_room (view_step s))) c.deref-in-If.ensures in
    let d = c.step_counts-in-If.ensures.temporaries ∙ ap (λ (s : Step). counted (step_room (view_step s))) c.deref-in-If-2.ensures in
    let all = c.choice_counts.ensures.temporaries in
    let whole = ap (λ (s : Step). step_room (view_step s)) c.in-If.is in
    omega (arith, a, b, d, all, whole)

pub step_counts-returns-in-If-clause-arrays : goal.step_counts-returns-in-If-clause-arrays
step_counts-returns-in-If-clause-arrays t c =
    let a = c.counts_in-in-If.ensures.arrays in
    let b = c.step_counts.ensures.arrays ∙ ap (λ (s : Step). counted (step_arrays (view_step s))) c.deref-in-If.ensures in
    let d = c.step_counts-in-If.ensures.arrays ∙ ap (λ (s : Step). counted (step_arrays (view_step s))) c.deref-in-If-2.ensures in
    let all = c.choice_counts.ensures.arrays in
    let whole = ap (λ (s : Step). step_arrays (view_step s)) c.in-If.is in
    omega (arith, a, b, d, all, whole)

pub step_counts-returns-in-If-clause-iterators : goal.step_counts-returns-in-If-clause-iterators
step_counts-returns-in-If-clause-iterators t c =
    let a = c.counts_in-in-If.ensures.iterators in
    let b = c.step_counts.ensures.iterators ∙ ap (λ (s : Step). counted (step_iterators (view_step s))) c.deref-in-If.ensures in
    let d = c.step_counts-in-If.ensures.iterators ∙ ap (λ (s : Step). counted (step_iterators (view_step s))) c.deref-in-If-2.ensures in
    let all = c.choice_counts.ensures.iterators in
    let whole = ap (λ (s : Step). step_iterators (view_step s)) c.in-If.is in
    omega (arith, a, b, d, all, whole)

pub step_counts-returns-in-If-clause-labels : goal.step_counts-returns-in-If-clause-labels
step_counts-returns-in-If-clause-labels t c =
    let test = view c.in-If.test in
    let quick : c.is_some-quick.result ≡ is_some (pair_in test) = let a = ap is_some c.pair_in.ensures in search rules in
    let b = c.step_counts.ensures.labels ∙ ap (λ (s : Step). counted (step_labels (view_step s))) c.deref-in-If.ensures in
    let d = c.step_counts-in-If.ensures.labels ∙ ap (λ (s : Step). counted (step_labels (view_step s))) c.deref-in-If-2.ensures in
    let yes = step_labels (view_step c.in-If.yes.value) in
    let no = step_labels (view_step c.in-If.no.value) in
    c.choice_counts.ensures.labels (labels_in test) yes no c.counts_in-in-If.ensures.labels b d
    ∙ ap (λ (q : Bool). counted (choice_labels q (labels_in test) yes no)) quick
    ∙ sym (ap (λ (s : Step). counted (step_labels (view_step s))) c.in-If.is)

pub step_counts-returns-in-Each-clause-temporaries : goal.step_counts-returns-in-Each-clause-temporaries
step_counts-returns-in-Each-clause-temporaries t c =
    let a = c.counts_in-in-Each.ensures.temporaries in
    let l = c.later.ensures.temporaries in
    let i = c.inside.ensures.temporaries in
    let b = c.step_counts-in-Each.ensures.temporaries ∙ ap (λ (s : Step). counted (step_room (view_step s))) c.deref-in-Each.ensures in
    let w = c.walking.ensures.temporaries in
    let j = c.inside-in-Each.ensures.temporaries in
    let all = c.both.ensures.temporaries in
    let whole = ap (λ (s : Step). step_room (view_step s)) c.in-Each.is in
    omega (arith, a, l, i, b, w, j, all, whole)

pub step_counts-returns-in-Each-clause-arrays : goal.step_counts-returns-in-Each-clause-arrays
step_counts-returns-in-Each-clause-arrays t c =
    let a = c.counts_in-in-Each.ensures.arrays in
    let l = c.later.ensures.arrays in
    let i = c.inside.ensures.arrays in
    let b = c.step_counts-in-Each.ensures.arrays ∙ ap (λ (s : Step). counted (step_arrays (view_step s))) c.deref-in-Each.ensures in
    let w = c.walking.ensures.arrays in
    let j = c.inside-in-Each.ensures.arrays in
    let all = c.both.ensures.arrays in
    let whole = ap (λ (s : Step). step_arrays (view_step s)) c.in-Each.is in
    omega (arith, a, l, i, b, w, j, all, whole)

pub step_counts-returns-in-Each-clause-iterators : goal.step_counts-returns-in-Each-clause-iterators
step_counts-returns-in-Each-clause-iterators t c =
    let a = c.counts_in-in-Each.ensures.iterators in
    let l = c.later.ensures.iterators in
    let i = c.inside.ensures.iterators in
    let b = c.step_counts-in-Each.ensures.iterators ∙ ap (λ (s : Step). counted (step_iterators (view_step s))) c.deref-in-Each.ensures in
    let w = c.walking.ensures.iterators in
    let j = c.inside-in-Each.ensures.iterators in
    let all = c.both.ensures.iterators in
    let whole = ap (λ (s : Step). step_iterators (view_step s)) c.in-Each.is in
    omega (arith, a, l, i, b, w, j, all, whole)

pub step_counts-returns-in-Each-clause-labels : goal.step_counts-returns-in-Each-clause-labels
step_counts-returns-in-Each-clause-labels t c =
    let a = c.counts_in-in-Each.ensures.labels in
    let l = c.later.ensures.labels in
    let i = c.inside.ensures.labels in
    let b = c.step_counts-in-Each.ensures.labels ∙ ap (λ (s : Step). counted (step_labels (view_step s))) c.deref-in-Each.ensures in
    let w = c.walking.ensures.labels in
    let j = c.inside-in-Each.ensures.labels in
    let all = c.both.ensures.labels in
    let whole = ap (λ (s : Step). step_labels (view_step s)) c.in-Each.is in
    omega (arith, a, l, i, b, w, j, all, whole)

pub step_counts-returns-in-Loop-true-default-default-default-clause-temporaries : goal.step_counts-returns-in-Loop-true-default-default-default-clause-temporaries
step_counts-returns-in-Loop-true-default-default-default-clause-temporaries t c =
    let a = c.test_counts.ensures.temporaries in
    let b = c.step_counts-in-Loop-true-default-default-default.ensures.temporaries ∙ ap (λ (s : Step). counted (step_room (view_step s))) c.deref-in-Loop-true-default-default-default-2.ensures in
    let m = c.more_if-body.ensures.temporaries in
    let d = c.step_counts-in-Loop-true-default-default-default-2.ensures.temporaries ∙ ap (λ (s : Step). counted (step_room (view_step s))) c.deref-in-Loop-true-default-default-default-3.ensures in
    let all = c.loop_counts.ensures.temporaries in
    let whole = ap (λ (s : Step). step_room (view_step s)) c.in-Loop-true-default-default-default.is in
    omega (arith, a, b, m, d, all, whole)

pub step_counts-returns-in-Loop-false-default-default-default-clause-temporaries : goal.step_counts-returns-in-Loop-false-default-default-default-clause-temporaries
step_counts-returns-in-Loop-false-default-default-default-clause-temporaries t c =
    let a = c.counts_in-in-Loop-false-default-default-default.ensures.temporaries in
    let b = c.step_counts-in-Loop-false-default-default-default.ensures.temporaries ∙ ap (λ (s : Step). counted (step_room (view_step s))) c.deref-in-Loop-false-default-default-default.ensures in
    let i = c.inside-body.ensures.temporaries in
    let d = c.step_counts-in-Loop-false-default-default-default-2.ensures.temporaries ∙ ap (λ (s : Step). counted (step_room (view_step s))) c.deref-in-Loop-false-default-default-default-2.ensures in
    let all = c.loop_counts-in-Loop-false-default-default-default.ensures.temporaries in
    let whole = ap (λ (s : Step). step_room (view_step s)) c.in-Loop-false-default-default-default.is in
    omega (arith, a, b, i, d, all, whole)

pub step_counts-returns-in-Loop-true-default-default-default-clause-arrays : goal.step_counts-returns-in-Loop-true-default-default-default-clause-arrays
step_counts-returns-in-Loop-true-default-default-default-clause-arrays t c =
    let a = c.test_counts.ensures.arrays in
    let b = c.step_counts-in-Loop-true-default-default-default.ensures.arrays ∙ ap (λ (s : Step). counted (step_arrays (view_step s))) c.deref-in-Loop-true-default-default-default-2.ensures in
    let m = c.more_if-body.ensures.arrays in
    let d = c.step_counts-in-Loop-true-default-default-default-2.ensures.arrays ∙ ap (λ (s : Step). counted (step_arrays (view_step s))) c.deref-in-Loop-true-default-default-default-3.ensures in
    let all = c.loop_counts.ensures.arrays in
    let whole = ap (λ (s : Step). step_arrays (view_step s)) c.in-Loop-true-default-default-default.is in
    omega (arith, a, b, m, d, all, whole)

pub step_counts-returns-in-Loop-false-default-default-default-clause-arrays : goal.step_counts-returns-in-Loop-false-default-default-default-clause-arrays
step_counts-returns-in-Loop-false-default-default-default-clause-arrays t c =
    let a = c.counts_in-in-Loop-false-default-default-default.ensures.arrays in
    let b = c.step_counts-in-Loop-false-default-default-default.ensures.arrays ∙ ap (λ (s : Step). counted (step_arrays (view_step s))) c.deref-in-Loop-false-default-default-default.ensures in
    let i = c.inside-body.ensures.arrays in
    let d = c.step_counts-in-Loop-false-default-default-default-2.ensures.arrays ∙ ap (λ (s : Step). counted (step_arrays (view_step s))) c.deref-in-Loop-false-default-default-default-2.ensures in
    let all = c.loop_counts-in-Loop-false-default-default-default.ensures.arrays in
    let whole = ap (λ (s : Step). step_arrays (view_step s)) c.in-Loop-false-default-default-default.is in
    omega (arith, a, b, i, d, all, whole)

pub step_counts-returns-in-Loop-true-default-default-default-clause-iterators : goal.step_counts-returns-in-Loop-true-default-default-default-clause-iterators
step_counts-returns-in-Loop-true-default-default-default-clause-iterators t c =
    let a = c.test_counts.ensures.iterators in
    let b = c.step_counts-in-Loop-true-default-default-default.ensures.iterators ∙ ap (λ (s : Step). counted (step_iterators (view_step s))) c.deref-in-Loop-true-default-default-default-2.ensures in
    let m = c.more_if-body.ensures.iterators in
    let d = c.step_counts-in-Loop-true-default-default-default-2.ensures.iterators ∙ ap (λ (s : Step). counted (step_iterators (view_step s))) c.deref-in-Loop-true-default-default-default-3.ensures in
    let all = c.loop_counts.ensures.iterators in
    let whole = ap (λ (s : Step). step_iterators (view_step s)) c.in-Loop-true-default-default-default.is in
    omega (arith, a, b, m, d, all, whole)

pub step_counts-returns-in-Loop-false-default-default-default-clause-iterators : goal.step_counts-returns-in-Loop-false-default-default-default-clause-iterators
step_counts-returns-in-Loop-false-default-default-default-clause-iterators t c =
    let a = c.counts_in-in-Loop-false-default-default-default.ensures.iterators in
    let b = c.step_counts-in-Loop-false-default-default-default.ensures.iterators ∙ ap (λ (s : Step). counted (step_iterators (view_step s))) c.deref-in-Loop-false-default-default-default.ensures in
    let i = c.inside-body.ensures.iterators in
    let d = c.step_counts-in-Loop-false-default-default-default-2.ensures.iterators ∙ ap (λ (s : Step). counted (step_iterators (view_step s))) c.deref-in-Loop-false-default-default-default-2.ensures in
    let all = c.loop_counts-in-Loop-false-default-default-default.ensures.iterators in
    let whole = ap (λ (s : Step). step_iterators (view_step s)) c.in-Loop-false-default-default-default.is in
    omega (arith, a, b, i, d, all, whole)

pub step_counts-returns-in-Loop-true-default-default-default-clause-labels : goal.step_counts-returns-in-Loop-true-default-default-default-clause-labels
step_counts-returns-in-Loop-true-default-default-default-clause-labels t c =
    let test = more_if (is_some (pair_in (view c.in-Loop-true-default-default-default.test))) (labels_in (view c.in-Loop-true-default-default-default.test)) in
    let within = step_labels (view_step c.in-Loop-true-default-default-default.body.value) in
    let after = step_labels (view_step c.in-Loop-true-default-default-default.last.value) in
    let jumps = c.step_jumps.ensures ∙ ap (λ (s : Step). step_jumps (view_step s)) c.deref-in-Loop-true-default-default-default.ensures in
    let b = c.more_if-body.ensures.labels within (c.step_counts-in-Loop-true-default-default-default.ensures.labels ∙ ap (λ (s : Step). counted (step_labels (view_step s))) c.deref-in-Loop-true-default-default-default-2.ensures) in
    let d = c.step_counts-in-Loop-true-default-default-default-2.ensures.labels ∙ ap (λ (s : Step). counted (step_labels (view_step s))) c.deref-in-Loop-true-default-default-default-3.ensures in
    c.loop_counts.ensures.labels test (more_if c.step_jumps.result within) after c.test_counts.ensures.labels b d
    ∙ ap (λ (leaves : Bool). counted (loop_labels test (more_if leaves within) after)) jumps
    ∙ sym (ap (λ (s : Step). counted (step_labels (view_step s))) c.in-Loop-true-default-default-default.is
    ∙ ap (λ (first : Bool). counted (step_labels (plain.Loop first (view c.in-Loop-true-default-default-default.test) (view_step c.in-Loop-true-default-default-default.body.value) (view_step c.in-Loop-true-default-default-default.last.value)))) (sym c.in-Loop-true-default-default-default.field-0-is ∙ c.in-Loop-true-default-default-default.field-0-test))

pub step_counts-returns-in-Loop-false-default-default-default-clause-labels : goal.step_counts-returns-in-Loop-false-default-default-default-clause-labels
step_counts-returns-in-Loop-false-default-default-default-clause-labels t c =
    let test = labels_in (view c.in-Loop-false-default-default-default.test) in
    let within = step_labels (view_step c.in-Loop-false-default-default-default.body.value) in
    let after = step_labels (view_step c.in-Loop-false-default-default-default.last.value) in
    let b = c.step_counts-in-Loop-false-default-default-default.ensures.labels ∙ ap (λ (s : Step). counted (step_labels (view_step s))) c.deref-in-Loop-false-default-default-default.ensures in
    let i = c.inside-body.ensures.labels in
    let d = c.step_counts-in-Loop-false-default-default-default-2.ensures.labels ∙ ap (λ (s : Step). counted (step_labels (view_step s))) c.deref-in-Loop-false-default-default-default-2.ensures in
    c.loop_counts-in-Loop-false-default-default-default.ensures.labels test (suc within) after c.counts_in-in-Loop-false-default-default-default.ensures.labels (omega (arith, b, i)) d
    ∙ sym (ap (λ (s : Step). counted (step_labels (view_step s))) c.in-Loop-false-default-default-default.is
    ∙ ap (λ (first : Bool). counted (step_labels (plain.Loop first (view c.in-Loop-false-default-default-default.test) (view_step c.in-Loop-false-default-default-default.body.value) (view_step c.in-Loop-false-default-default-default.last.value)))) (sym c.in-Loop-false-default-default-default.field-0-is ∙ c.in-Loop-false-default-default-default.field-0-test))
