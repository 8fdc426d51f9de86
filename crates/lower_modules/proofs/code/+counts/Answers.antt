use Rattle.std.proofs.Common.{◌≡◌, ◌-◌, ℕ, suc, Bool, max, List, map, drop, ap, sym, ◌∙◌, arith, rules}
use Rattle.std.specs.Prelude.{is_some}
use Rattle.lower_model.specs.Quick.{addition_in}
use Rattle.mid_program.specs.Mid as plain
use Rattle.mid_program.specs.ViewCode.{before, joined, view, views}
use Rattle.mid_program.specs.declared.code.Code.{Code}
use Rattle.mid_program.specs.declared.code.Operand.{Operand}
use Rattle.lower_model.specs.Places.{arrays_among, arrays_in, room, rooms}
use Rattle.lower_modules.specs.Counted.{counted}
use Rattle.lower_modules.specs.Labels.{labels_among, labels_in, more_if}
use Rattle.mid_program.proofs.Views.{view_joined}
use Rattle.lower_modules.proofs.Keys.{arrays_joined, labels_joined, one_before, one_more, room_joined}
use Rattle.lower_quick.proofs.Views.{view_call, view_do, view_over, view_replace}
use Rattle.lower_modules.proofs.code.+counts.Goals as goal

pub counts_in-returns-in-Do-clause-temporaries : goal.counts_in-returns-in-Do-clause-temporaries
counts_in-returns-in-Do-clause-temporaries t c =
    let r = c.counts_among.ensures.temporaries ∙ ap (λ (es : List Operand). counted (rooms (views es))) c.deref-in-Do.ensures.value in
    let k = c.least_room.ensures (views c.in-Do.operands.items) in
    let few = c.least_room.type_inv in
    let whole = ap room (ap view c.in-Do.is ∙ view_do c.in-Do.operation c.in-Do.operands) in
    let l = c.at_least-plain.ensures.temporaries in
    let m = c.more_if.ensures.temporaries in
    omega (arith, r, k, few, whole, l, m)

pub counts_in-returns-in-Do-clause-arrays : goal.counts_in-returns-in-Do-clause-arrays
counts_in-returns-in-Do-clause-arrays t c =
    c.more_if.ensures.arrays ∙ c.at_least-plain.ensures.arrays ∙ c.counts_among.ensures.arrays ∙ ap (λ (es : List Operand). counted (arrays_among (views es))) c.deref-in-Do.ensures.value
    ∙ sym (ap (λ (e : plain.Code). counted (arrays_in e)) (ap view c.in-Do.is ∙ view_do c.in-Do.operation c.in-Do.operands))

pub counts_in-returns-in-Do-clause-labels : goal.counts_in-returns-in-Do-clause-labels
counts_in-returns-in-Do-clause-labels t c =
    let es = views c.in-Do.operands.items in
    let few = c.at_least-plain.ensures.labels ∙ c.counts_among.ensures.labels ∙ ap (λ (os : List Operand). counted (labels_among (views os))) c.deref-in-Do.ensures.value in
    let is = c.addition_in.ensures ∙ ap (λ (os : List Operand). addition_in c.in-Do.operation (views os)) c.deref.ensures.value in
    let quick : c.is_some-quick.result ≡ is_some (addition_in c.in-Do.operation es) = let a = ap is_some is in search rules in
    c.more_if.ensures.labels (labels_among es) few ∙ ap (λ (q : Bool). counted (more_if q (labels_among es))) quick
    ∙ sym (ap (λ (e : plain.Code). counted (labels_in e)) (ap view c.in-Do.is ∙ view_do c.in-Do.operation c.in-Do.operands))

pub counts_in-returns-in-Joined-clause-temporaries : goal.counts_in-returns-in-Joined-clause-temporaries
counts_in-returns-in-Joined-clause-temporaries t c =
    let e = view c.in-Joined.first.value in
    let es = map view c.in-Joined.others.items in
    let last = view c.in-Joined.last.value in
    let a = c.counts_in-in-Joined.ensures.temporaries ∙ ap (λ (x : Code). counted (room (view x))) c.deref-in-Joined-3.ensures in
    let z = c.counts_in.ensures.temporaries ∙ ap (λ (x : Code). counted (room (view x))) c.deref-in-Joined-2.ensures in
    let j = c.joined_counts-after.ensures.temporaries last z ∙ ap (λ (xs : List Code). counted (room (joined (map view xs) last))) c.deref-in-Joined.ensures.value in
    let k = c.later.ensures.temporaries ∙ ap (λ (n : ℕ). counted (suc n)) j in
    c.both.ensures.temporaries ∙ (λ i. max (a i) (k i)) ∙ room_joined e es last
    ∙ sym (ap (λ (x : plain.Code). counted (room x)) (ap view c.in-Joined.is ∙ view_joined c.in-Joined.first c.in-Joined.others c.in-Joined.last))

pub counts_in-returns-in-Joined-clause-arrays : goal.counts_in-returns-in-Joined-clause-arrays
counts_in-returns-in-Joined-clause-arrays t c =
    let e = view c.in-Joined.first.value in
    let es = map view c.in-Joined.others.items in
    let last = view c.in-Joined.last.value in
    let a = c.counts_in-in-Joined.ensures.arrays ∙ ap (λ (x : Code). counted (arrays_in (view x))) c.deref-in-Joined-3.ensures in
    let z = c.counts_in.ensures.arrays ∙ ap (λ (x : Code). counted (arrays_in (view x))) c.deref-in-Joined-2.ensures in
    let j = c.joined_counts-after.ensures.arrays last z ∙ ap (λ (xs : List Code). counted (arrays_in (joined (map view xs) last))) c.deref-in-Joined.ensures.value in
    let k = c.later.ensures.arrays ∙ j in
    c.both.ensures.arrays ∙ (λ i. max (a i) (k i)) ∙ arrays_joined e es last
    ∙ sym (ap (λ (x : plain.Code). counted (arrays_in x)) (ap view c.in-Joined.is ∙ view_joined c.in-Joined.first c.in-Joined.others c.in-Joined.last))

pub counts_in-returns-in-Joined-clause-labels : goal.counts_in-returns-in-Joined-clause-labels
counts_in-returns-in-Joined-clause-labels t c =
    let e = view c.in-Joined.first.value in
    let es = map view c.in-Joined.others.items in
    let last = view c.in-Joined.last.value in
    let a = c.counts_in-in-Joined.ensures.labels ∙ ap (λ (x : Code). counted (labels_in (view x))) c.deref-in-Joined-3.ensures in
    let z = c.counts_in.ensures.labels ∙ ap (λ (x : Code). counted (labels_in (view x))) c.deref-in-Joined-2.ensures in
    let j = c.joined_counts-after.ensures.labels last z ∙ ap (λ (xs : List Code). counted (labels_in (joined (map view xs) last))) c.deref-in-Joined.ensures.value in
    let k = c.later.ensures.labels ∙ j in
    c.both.ensures.labels ∙ (λ i. max (a i) (k i)) ∙ labels_joined e es last
    ∙ sym (ap (λ (x : plain.Code). counted (labels_in x)) (ap view c.in-Joined.is ∙ view_joined c.in-Joined.first c.in-Joined.others c.in-Joined.last))

pub joined_counts-loop-left-preserved : goal.joined_counts-loop-left-preserved
joined_counts-loop-left-preserved t c = record {
  temporaries = λ z h. let k = c.later.ensures.temporaries ∙ ap (λ (n : ℕ). counted (suc n)) (c.loop-left.invariant.temporaries z h) in
      c.both-needed.ensures.temporaries ∙ (λ i. max (c.counts_in.ensures.temporaries i) (k i)) ∙ room_joined (view c.index-others-left.result) (map view (drop c.loop-left.left c.args.others.now)) z
      ∙ ap (λ (x : plain.Code). counted (room x)) (one_more c.args.others.now c.loop-left.left (c.loop-left.left - 1) c.index-others-left.result z (omega arith) c.loop-left.invariant.inside c.index-others-left.is);
  arrays = λ z h. let k = c.later.ensures.arrays ∙ c.loop-left.invariant.arrays z h in
      c.both-needed.ensures.arrays ∙ (λ i. max (c.counts_in.ensures.arrays i) (k i)) ∙ arrays_joined (view c.index-others-left.result) (map view (drop c.loop-left.left c.args.others.now)) z
      ∙ ap (λ (x : plain.Code). counted (arrays_in x)) (one_more c.args.others.now c.loop-left.left (c.loop-left.left - 1) c.index-others-left.result z (omega arith) c.loop-left.invariant.inside c.index-others-left.is);
  iterators = λ h. c.both-needed.ensures.iterators ∙ (λ i. max (c.counts_in.ensures.iterators i) ((c.later.ensures.iterators ∙ c.loop-left.invariant.iterators h) i));
  labels = λ z h. let k = c.later.ensures.labels ∙ c.loop-left.invariant.labels z h in
      c.both-needed.ensures.labels ∙ (λ i. max (c.counts_in.ensures.labels i) (k i)) ∙ labels_joined (view c.index-others-left.result) (map view (drop c.loop-left.left c.args.others.now)) z
      ∙ ap (λ (x : plain.Code). counted (labels_in x)) (one_more c.args.others.now c.loop-left.left (c.loop-left.left - 1) c.index-others-left.result z (omega arith) c.loop-left.invariant.inside c.index-others-left.is);
  inside = omega arith;
}

pub joined_counts-returns-clause-temporaries : goal.joined_counts-returns-clause-temporaries
joined_counts-returns-clause-temporaries t c = λ z h.
    let first : c.loop-left.left ≡ 0 = omega arith in
    c.loop-left.invariant.temporaries z h ∙ ap (λ (n : ℕ). counted (room (joined (map view (drop n c.args.others.now)) z))) first

pub joined_counts-returns-clause-arrays : goal.joined_counts-returns-clause-arrays
joined_counts-returns-clause-arrays t c = λ z h.
    let first : c.loop-left.left ≡ 0 = omega arith in
    c.loop-left.invariant.arrays z h ∙ ap (λ (n : ℕ). counted (arrays_in (joined (map view (drop n c.args.others.now)) z))) first

pub joined_counts-returns-clause-labels : goal.joined_counts-returns-clause-labels
joined_counts-returns-clause-labels t c = λ z h.
    let first : c.loop-left.left ≡ 0 = omega arith in
    c.loop-left.invariant.labels z h ∙ ap (λ (n : ℕ). counted (labels_in (joined (map view (drop n c.args.others.now)) z))) first

pub counts_in-returns-in-Over-clause-temporaries : goal.counts_in-returns-in-Over-clause-temporaries
counts_in-returns-in-Over-clause-temporaries t c =
    let r = c.counts_among-in-Over.ensures.temporaries ∙ ap (λ (es : List Operand). counted (rooms (views es))) c.deref-in-Over.ensures.value in
    let whole = ap room (ap view c.in-Over.is ∙ view_over c.in-Over.field-0 c.in-Over.operands) in
    let l = c.at_least.ensures.temporaries in
    omega (arith, r, whole, l)

pub counts_in-returns-in-Over-clause-arrays : goal.counts_in-returns-in-Over-clause-arrays
counts_in-returns-in-Over-clause-arrays t c =
    c.at_least.ensures.arrays ∙ c.counts_among-in-Over.ensures.arrays ∙ ap (λ (es : List Operand). counted (arrays_among (views es))) c.deref-in-Over.ensures.value
    ∙ sym (ap (λ (e : plain.Code). counted (arrays_in e)) (ap view c.in-Over.is ∙ view_over c.in-Over.field-0 c.in-Over.operands))

pub counts_in-returns-in-Over-clause-labels : goal.counts_in-returns-in-Over-clause-labels
counts_in-returns-in-Over-clause-labels t c =
    c.at_least.ensures.labels ∙ c.counts_among-in-Over.ensures.labels ∙ ap (λ (es : List Operand). counted (labels_among (views es))) c.deref-in-Over.ensures.value
    ∙ sym (ap (λ (e : plain.Code). counted (labels_in e)) (ap view c.in-Over.is ∙ view_over c.in-Over.field-0 c.in-Over.operands))

pub counts_in-returns-in-Call-clause-temporaries : goal.counts_in-returns-in-Call-clause-temporaries
counts_in-returns-in-Call-clause-temporaries t c =
    let r = c.counts_among-in-Call.ensures.temporaries ∙ ap (λ (es : List Operand). counted (rooms (views es))) c.deref-in-Call.ensures.value in
    let whole = ap room (ap view c.in-Call.is ∙ view_call c.in-Call.field-0 c.in-Call.operands) in
    let l = c.at_least-in-Call.ensures.temporaries in
    omega (arith, r, whole, l)

pub counts_in-returns-in-Call-clause-arrays : goal.counts_in-returns-in-Call-clause-arrays
counts_in-returns-in-Call-clause-arrays t c =
    c.at_least-in-Call.ensures.arrays ∙ c.counts_among-in-Call.ensures.arrays ∙ ap (λ (es : List Operand). counted (arrays_among (views es))) c.deref-in-Call.ensures.value
    ∙ sym (ap (λ (e : plain.Code). counted (arrays_in e)) (ap view c.in-Call.is ∙ view_call c.in-Call.field-0 c.in-Call.operands))

pub counts_in-returns-in-Call-clause-labels : goal.counts_in-returns-in-Call-clause-labels
counts_in-returns-in-Call-clause-labels t c =
    c.at_least-in-Call.ensures.labels ∙ c.counts_among-in-Call.ensures.labels ∙ ap (λ (es : List Operand). counted (labels_among (views es))) c.deref-in-Call.ensures.value
    ∙ sym (ap (λ (e : plain.Code). counted (labels_in e)) (ap view c.in-Call.is ∙ view_call c.in-Call.field-0 c.in-Call.operands))

pub counts_in-returns-in-Replace-clause-temporaries : goal.counts_in-returns-in-Replace-clause-temporaries
counts_in-returns-in-Replace-clause-temporaries t c =
    let a = c.counts_among-in-Replace.ensures.temporaries ∙ ap (λ (es : List Operand). counted (rooms (views es))) c.deref-in-Replace.ensures.value in
    let b = c.counts_in-in-Replace.ensures.temporaries ∙ ap (λ (e : Code). counted (room (view e))) c.deref-in-Replace-2.ensures in
    let whole = ap room (ap view c.in-Replace.is ∙ view_replace c.in-Replace.field-0 c.in-Replace.operands c.in-Replace.store) in
    let l = c.at_least-in-Replace.ensures.temporaries in
    let s = c.stored-in-Replace.ensures.temporaries in
    let m = c.both-in-Replace.ensures.temporaries in
    omega (arith, a, b, whole, l, s, m)

pub counts_in-returns-in-Replace-clause-arrays : goal.counts_in-returns-in-Replace-clause-arrays
counts_in-returns-in-Replace-clause-arrays t c =
    let a = c.counts_among-in-Replace.ensures.arrays ∙ ap (λ (es : List Operand). counted (arrays_among (views es))) c.deref-in-Replace.ensures.value in
    let b = c.counts_in-in-Replace.ensures.arrays ∙ ap (λ (e : Code). counted (arrays_in (view e))) c.deref-in-Replace-2.ensures in
    let whole = ap arrays_in (ap view c.in-Replace.is ∙ view_replace c.in-Replace.field-0 c.in-Replace.operands c.in-Replace.store) in
    let l = c.at_least-in-Replace.ensures.arrays in
    let s = c.stored-in-Replace.ensures.arrays in
    let m = c.both-in-Replace.ensures.arrays in
    omega (arith, a, b, whole, l, s, m)

pub counts_in-returns-in-Replace-clause-labels : goal.counts_in-returns-in-Replace-clause-labels
counts_in-returns-in-Replace-clause-labels t c =
    let a = c.counts_among-in-Replace.ensures.labels ∙ ap (λ (es : List Operand). counted (labels_among (views es))) c.deref-in-Replace.ensures.value in
    let b = c.counts_in-in-Replace.ensures.labels ∙ ap (λ (e : Code). counted (labels_in (view e))) c.deref-in-Replace-2.ensures in
    let whole = ap labels_in (ap view c.in-Replace.is ∙ view_replace c.in-Replace.field-0 c.in-Replace.operands c.in-Replace.store) in
    let l = c.at_least-in-Replace.ensures.labels in
    let s = c.stored-in-Replace.ensures.labels in
    let m = c.both-in-Replace.ensures.labels in
    omega (arith, a, b, whole, l, s, m)

pub counts_in-returns-in-Compare-clause-temporaries : goal.counts_in-returns-in-Compare-clause-temporaries
counts_in-returns-in-Compare-clause-temporaries t c =
    let a = c.counts_in-in-Compare.ensures.temporaries ∙ ap (λ (e : Code). counted (room (view e))) c.deref-in-Compare.ensures in
    let b = c.counts_in-in-Compare-2.ensures.temporaries ∙ ap (λ (e : Code). counted (room (view e))) c.deref-in-Compare-2.ensures in
    let l = c.later-in-Compare.ensures.temporaries in
    let m = c.both-in-Compare.ensures.temporaries in
    let whole = ap (λ (e : Code). room (view e)) c.in-Compare.is in
    omega (arith, a, b, l, m, whole)

pub counts_in-returns-in-Compare-clause-arrays : goal.counts_in-returns-in-Compare-clause-arrays
counts_in-returns-in-Compare-clause-arrays t c =
    let a = c.counts_in-in-Compare.ensures.arrays ∙ ap (λ (e : Code). counted (arrays_in (view e))) c.deref-in-Compare.ensures in
    let b = c.counts_in-in-Compare-2.ensures.arrays ∙ ap (λ (e : Code). counted (arrays_in (view e))) c.deref-in-Compare-2.ensures in
    let l = c.later-in-Compare.ensures.arrays in
    let m = c.both-in-Compare.ensures.arrays in
    let whole = ap (λ (e : Code). arrays_in (view e)) c.in-Compare.is in
    omega (arith, a, b, l, m, whole)

pub counts_in-returns-in-Compare-clause-iterators : goal.counts_in-returns-in-Compare-clause-iterators
counts_in-returns-in-Compare-clause-iterators t c =
    let a = c.counts_in-in-Compare.ensures.iterators in
    let b = c.counts_in-in-Compare-2.ensures.iterators in
    let l = c.later-in-Compare.ensures.iterators in
    let m = c.both-in-Compare.ensures.iterators in
    omega (arith, a, b, l, m)

pub counts_in-returns-in-Compare-clause-labels : goal.counts_in-returns-in-Compare-clause-labels
counts_in-returns-in-Compare-clause-labels t c =
    let a = c.counts_in-in-Compare.ensures.labels ∙ ap (λ (e : Code). counted (labels_in (view e))) c.deref-in-Compare.ensures in
    let b = c.counts_in-in-Compare-2.ensures.labels ∙ ap (λ (e : Code). counted (labels_in (view e))) c.deref-in-Compare-2.ensures in
    let l = c.later-in-Compare.ensures.labels in
    let m = c.both-in-Compare.ensures.labels in
    let whole = ap (λ (e : Code). labels_in (view e)) c.in-Compare.is in
    omega (arith, a, b, l, m, whole)

pub counts_in-returns-in-Let-clause-temporaries : goal.counts_in-returns-in-Let-clause-temporaries
counts_in-returns-in-Let-clause-temporaries t c =
    let a = c.counts_in-in-Let.ensures.temporaries ∙ ap (λ (e : Code). counted (room (view e))) c.deref-in-Let.ensures in
    let b = c.counts_in-in-Let-2.ensures.temporaries ∙ ap (λ (e : Code). counted (room (view e))) c.deref-in-Let-2.ensures in
    let l = c.later-in-Let.ensures.temporaries in
    let m = c.both-in-Let.ensures.temporaries in
    let whole = ap (λ (e : Code). room (view e)) c.in-Let.is in
    omega (arith, a, b, l, m, whole)

pub counts_in-returns-in-Let-clause-arrays : goal.counts_in-returns-in-Let-clause-arrays
counts_in-returns-in-Let-clause-arrays t c =
    let a = c.counts_in-in-Let.ensures.arrays ∙ ap (λ (e : Code). counted (arrays_in (view e))) c.deref-in-Let.ensures in
    let b = c.counts_in-in-Let-2.ensures.arrays ∙ ap (λ (e : Code). counted (arrays_in (view e))) c.deref-in-Let-2.ensures in
    let l = c.later-in-Let.ensures.arrays in
    let m = c.both-in-Let.ensures.arrays in
    let whole = ap (λ (e : Code). arrays_in (view e)) c.in-Let.is in
    omega (arith, a, b, l, m, whole)

pub counts_in-returns-in-Let-clause-iterators : goal.counts_in-returns-in-Let-clause-iterators
counts_in-returns-in-Let-clause-iterators t c =
    let a = c.counts_in-in-Let.ensures.iterators in
    let b = c.counts_in-in-Let-2.ensures.iterators in
    let l = c.later-in-Let.ensures.iterators in
    let m = c.both-in-Let.ensures.iterators in
    omega (arith, a, b, l, m)

pub counts_in-returns-in-Let-clause-labels : goal.counts_in-returns-in-Let-clause-labels
counts_in-returns-in-Let-clause-labels t c =
    let a = c.counts_in-in-Let.ensures.labels ∙ ap (λ (e : Code). counted (labels_in (view e))) c.deref-in-Let.ensures in
    let b = c.counts_in-in-Let-2.ensures.labels ∙ ap (λ (e : Code). counted (labels_in (view e))) c.deref-in-Let-2.ensures in
    let l = c.later-in-Let.ensures.labels in
    let m = c.both-in-Let.ensures.labels in
    let whole = ap (λ (e : Code). labels_in (view e)) c.in-Let.is in
    omega (arith, a, b, l, m, whole)

pub counts_in-returns-in-Seq-clause-temporaries : goal.counts_in-returns-in-Seq-clause-temporaries
counts_in-returns-in-Seq-clause-temporaries t c =
    let a = c.counts_in-in-Seq.ensures.temporaries ∙ ap (λ (e : Code). counted (room (view e))) c.deref-in-Seq.ensures in
    let b = c.counts_in-in-Seq-2.ensures.temporaries ∙ ap (λ (e : Code). counted (room (view e))) c.deref-in-Seq-2.ensures in
    let m = c.both-in-Seq.ensures.temporaries in
    let whole = ap (λ (e : Code). room (view e)) c.in-Seq.is in
    omega (arith, a, b, m, whole)

pub counts_in-returns-in-Seq-clause-arrays : goal.counts_in-returns-in-Seq-clause-arrays
counts_in-returns-in-Seq-clause-arrays t c =
    let a = c.counts_in-in-Seq.ensures.arrays ∙ ap (λ (e : Code). counted (arrays_in (view e))) c.deref-in-Seq.ensures in
    let b = c.counts_in-in-Seq-2.ensures.arrays ∙ ap (λ (e : Code). counted (arrays_in (view e))) c.deref-in-Seq-2.ensures in
    let m = c.both-in-Seq.ensures.arrays in
    let whole = ap (λ (e : Code). arrays_in (view e)) c.in-Seq.is in
    omega (arith, a, b, m, whole)

pub counts_in-returns-in-Seq-clause-iterators : goal.counts_in-returns-in-Seq-clause-iterators
counts_in-returns-in-Seq-clause-iterators t c =
    let a = c.counts_in-in-Seq.ensures.iterators in
    let b = c.counts_in-in-Seq-2.ensures.iterators in
    let m = c.both-in-Seq.ensures.iterators in
    omega (arith, a, b, m)

pub counts_in-returns-in-Seq-clause-labels : goal.counts_in-returns-in-Seq-clause-labels
counts_in-returns-in-Seq-clause-labels t c =
    let a = c.counts_in-in-Seq.ensures.labels ∙ ap (λ (e : Code). counted (labels_in (view e))) c.deref-in-Seq.ensures in
    let b = c.counts_in-in-Seq-2.ensures.labels ∙ ap (λ (e : Code). counted (labels_in (view e))) c.deref-in-Seq-2.ensures in
    let m = c.both-in-Seq.ensures.labels in
    let whole = ap (λ (e : Code). labels_in (view e)) c.in-Seq.is in
    omega (arith, a, b, m, whole)

pub counts_in-returns-in-AskLine-clause-temporaries : goal.counts_in-returns-in-AskLine-clause-temporaries
counts_in-returns-in-AskLine-clause-temporaries t c =
    let a = c.counts_in-in-AskLine.ensures.temporaries ∙ ap (λ (e : Code). counted (room (view e))) c.deref-in-AskLine.ensures in
    let s = c.stored.ensures.temporaries in
    let whole = ap (λ (e : Code). room (view e)) c.in-AskLine.is in
    omega (arith, a, s, whole)

pub counts_in-returns-in-AskLine-clause-arrays : goal.counts_in-returns-in-AskLine-clause-arrays
counts_in-returns-in-AskLine-clause-arrays t c =
    let a = c.counts_in-in-AskLine.ensures.arrays ∙ ap (λ (e : Code). counted (arrays_in (view e))) c.deref-in-AskLine.ensures in
    let s = c.stored.ensures.arrays in
    let whole = ap (λ (e : Code). arrays_in (view e)) c.in-AskLine.is in
    omega (arith, a, s, whole)

pub counts_in-returns-in-AskLine-clause-iterators : goal.counts_in-returns-in-AskLine-clause-iterators
counts_in-returns-in-AskLine-clause-iterators t c =
    let a = c.counts_in-in-AskLine.ensures.iterators in
    let s = c.stored.ensures.iterators in
    omega (arith, a, s)

pub counts_in-returns-in-AskLine-clause-labels : goal.counts_in-returns-in-AskLine-clause-labels
counts_in-returns-in-AskLine-clause-labels t c =
    let a = c.counts_in-in-AskLine.ensures.labels ∙ ap (λ (e : Code). counted (labels_in (view e))) c.deref-in-AskLine.ensures in
    let s = c.stored.ensures.labels in
    let whole = ap (λ (e : Code). labels_in (view e)) c.in-AskLine.is in
    omega (arith, a, s, whole)

pub counts_in-returns-in-FileLine-clause-temporaries : goal.counts_in-returns-in-FileLine-clause-temporaries
counts_in-returns-in-FileLine-clause-temporaries t c =
    let a = c.counts_in-in-FileLine.ensures.temporaries ∙ ap (λ (e : Code). counted (room (view e))) c.deref-in-FileLine.ensures in
    let b = c.counts_in-in-FileLine-2.ensures.temporaries ∙ ap (λ (e : Code). counted (room (view e))) c.deref-in-FileLine-2.ensures in
    let s = c.stored-in-FileLine.ensures.temporaries in
    let m = c.both-in-FileLine.ensures.temporaries in
    let whole = ap (λ (e : Code). room (view e)) c.in-FileLine.is in
    omega (arith, a, b, s, m, whole)

pub counts_in-returns-in-FileLine-clause-arrays : goal.counts_in-returns-in-FileLine-clause-arrays
counts_in-returns-in-FileLine-clause-arrays t c =
    let a = c.counts_in-in-FileLine.ensures.arrays ∙ ap (λ (e : Code). counted (arrays_in (view e))) c.deref-in-FileLine.ensures in
    let b = c.counts_in-in-FileLine-2.ensures.arrays ∙ ap (λ (e : Code). counted (arrays_in (view e))) c.deref-in-FileLine-2.ensures in
    let s = c.stored-in-FileLine.ensures.arrays in
    let m = c.both-in-FileLine.ensures.arrays in
    let whole = ap (λ (e : Code). arrays_in (view e)) c.in-FileLine.is in
    omega (arith, a, b, s, m, whole)

pub counts_in-returns-in-FileLine-clause-iterators : goal.counts_in-returns-in-FileLine-clause-iterators
counts_in-returns-in-FileLine-clause-iterators t c =
    let a = c.counts_in-in-FileLine.ensures.iterators in
    let b = c.counts_in-in-FileLine-2.ensures.iterators in
    let s = c.stored-in-FileLine.ensures.iterators in
    let m = c.both-in-FileLine.ensures.iterators in
    omega (arith, a, b, s, m)

pub counts_in-returns-in-FileLine-clause-labels : goal.counts_in-returns-in-FileLine-clause-labels
counts_in-returns-in-FileLine-clause-labels t c =
    let a = c.counts_in-in-FileLine.ensures.labels ∙ ap (λ (e : Code). counted (labels_in (view e))) c.deref-in-FileLine.ensures in
    let b = c.counts_in-in-FileLine-2.ensures.labels ∙ ap (λ (e : Code). counted (labels_in (view e))) c.deref-in-FileLine-2.ensures in
    let s = c.stored-in-FileLine.ensures.labels in
    let m = c.both-in-FileLine.ensures.labels in
    let whole = ap (λ (e : Code). labels_in (view e)) c.in-FileLine.is in
    omega (arith, a, b, s, m, whole)

pub counts_in-returns-in-Set-clause-temporaries : goal.counts_in-returns-in-Set-clause-temporaries
counts_in-returns-in-Set-clause-temporaries t c =
    let a = c.counts_in-in-Set.ensures.temporaries ∙ ap (λ (e : Code). counted (room (view e))) c.deref-in-Set.ensures in
    let whole = ap (λ (e : Code). room (view e)) c.in-Set.is in
    omega (arith, a, whole)

pub counts_in-returns-in-Set-clause-arrays : goal.counts_in-returns-in-Set-clause-arrays
counts_in-returns-in-Set-clause-arrays t c =
    let a = c.counts_in-in-Set.ensures.arrays ∙ ap (λ (e : Code). counted (arrays_in (view e))) c.deref-in-Set.ensures in
    let whole = ap (λ (e : Code). arrays_in (view e)) c.in-Set.is in
    omega (arith, a, whole)

pub counts_in-returns-in-Set-clause-iterators : goal.counts_in-returns-in-Set-clause-iterators
counts_in-returns-in-Set-clause-iterators t c =
    let a = c.counts_in-in-Set.ensures.iterators in
    omega (arith, a)

pub counts_in-returns-in-Set-clause-labels : goal.counts_in-returns-in-Set-clause-labels
counts_in-returns-in-Set-clause-labels t c =
    let a = c.counts_in-in-Set.ensures.labels ∙ ap (λ (e : Code). counted (labels_in (view e))) c.deref-in-Set.ensures in
    let whole = ap (λ (e : Code). labels_in (view e)) c.in-Set.is in
    omega (arith, a, whole)

pub counts_in-returns-in-Choose-clause-temporaries : goal.counts_in-returns-in-Choose-clause-temporaries
counts_in-returns-in-Choose-clause-temporaries t c =
    let a = c.counts_in-in-Choose.ensures.temporaries ∙ ap (λ (e : Code). counted (room (view e))) c.deref-in-Choose.ensures in
    let b = c.counts_in-in-Choose-2.ensures.temporaries ∙ ap (λ (e : Code). counted (room (view e))) c.deref-in-Choose-2.ensures in
    let d = c.counts_in-in-Choose-3.ensures.temporaries ∙ ap (λ (e : Code). counted (room (view e))) c.deref-in-Choose-3.ensures in
    let m = c.both-in-Choose.ensures.temporaries in
    let i = c.inside.ensures.temporaries in
    let n = c.both-in-Choose-2.ensures.temporaries in
    let whole = ap (λ (e : Code). room (view e)) c.in-Choose.is in
    omega (arith, a, b, d, m, i, n, whole)

pub counts_in-returns-in-Choose-clause-arrays : goal.counts_in-returns-in-Choose-clause-arrays
counts_in-returns-in-Choose-clause-arrays t c =
    let a = c.counts_in-in-Choose.ensures.arrays ∙ ap (λ (e : Code). counted (arrays_in (view e))) c.deref-in-Choose.ensures in
    let b = c.counts_in-in-Choose-2.ensures.arrays ∙ ap (λ (e : Code). counted (arrays_in (view e))) c.deref-in-Choose-2.ensures in
    let d = c.counts_in-in-Choose-3.ensures.arrays ∙ ap (λ (e : Code). counted (arrays_in (view e))) c.deref-in-Choose-3.ensures in
    let m = c.both-in-Choose.ensures.arrays in
    let i = c.inside.ensures.arrays in
    let n = c.both-in-Choose-2.ensures.arrays in
    let whole = ap (λ (e : Code). arrays_in (view e)) c.in-Choose.is in
    omega (arith, a, b, d, m, i, n, whole)

pub counts_in-returns-in-Choose-clause-iterators : goal.counts_in-returns-in-Choose-clause-iterators
counts_in-returns-in-Choose-clause-iterators t c =
    let a = c.counts_in-in-Choose.ensures.iterators in
    let b = c.counts_in-in-Choose-2.ensures.iterators in
    let d = c.counts_in-in-Choose-3.ensures.iterators in
    let m = c.both-in-Choose.ensures.iterators in
    let i = c.inside.ensures.iterators in
    let n = c.both-in-Choose-2.ensures.iterators in
    omega (arith, a, b, d, m, i, n)

pub counts_in-returns-in-Choose-clause-labels : goal.counts_in-returns-in-Choose-clause-labels
counts_in-returns-in-Choose-clause-labels t c =
    let a = c.counts_in-in-Choose.ensures.labels ∙ ap (λ (e : Code). counted (labels_in (view e))) c.deref-in-Choose.ensures in
    let b = c.counts_in-in-Choose-2.ensures.labels ∙ ap (λ (e : Code). counted (labels_in (view e))) c.deref-in-Choose-2.ensures in
    let d = c.counts_in-in-Choose-3.ensures.labels ∙ ap (λ (e : Code). counted (labels_in (view e))) c.deref-in-Choose-3.ensures in
    let m = c.both-in-Choose.ensures.labels in
    let i = c.inside.ensures.labels in
    let n = c.both-in-Choose-2.ensures.labels in
    let whole = ap (λ (e : Code). labels_in (view e)) c.in-Choose.is in
    omega (arith, a, b, d, m, i, n, whole)

pub counts_in-returns-in-Do-clause-iterators : goal.counts_in-returns-in-Do-clause-iterators
counts_in-returns-in-Do-clause-iterators t c = c.more_if.ensures.iterators ∙ c.at_least-plain.ensures.iterators ∙ c.counts_among.ensures.iterators

pub counts_in-returns-in-Over-clause-iterators : goal.counts_in-returns-in-Over-clause-iterators
counts_in-returns-in-Over-clause-iterators t c = c.at_least.ensures.iterators ∙ c.counts_among-in-Over.ensures.iterators

pub counts_in-returns-in-Call-clause-iterators : goal.counts_in-returns-in-Call-clause-iterators
counts_in-returns-in-Call-clause-iterators t c = c.at_least-in-Call.ensures.iterators ∙ c.counts_among-in-Call.ensures.iterators

pub counts_in-returns-in-Replace-clause-iterators : goal.counts_in-returns-in-Replace-clause-iterators
counts_in-returns-in-Replace-clause-iterators t c =
    let a = c.counts_among-in-Replace.ensures.iterators in
    let b = c.counts_in-in-Replace.ensures.iterators in
    let l = c.at_least-in-Replace.ensures.iterators in
    let s = c.stored-in-Replace.ensures.iterators in
    let m = c.both-in-Replace.ensures.iterators in
    omega (arith, a, b, l, s, m)

pub counts_in-returns-in-Joined-clause-iterators : goal.counts_in-returns-in-Joined-clause-iterators
counts_in-returns-in-Joined-clause-iterators t c =
    let a = c.counts_in-in-Joined.ensures.iterators in
    let j = c.joined_counts-after.ensures.iterators c.counts_in.ensures.iterators in
    let l = c.later.ensures.iterators in
    let m = c.both.ensures.iterators in
    omega (arith, a, j, l, m)

pub operand_counts-returns-in-Code-clause-temporaries : goal.operand_counts-returns-in-Code-clause-temporaries
operand_counts-returns-in-Code-clause-temporaries t c = λ rest h.
    let a = c.counts_in.ensures.temporaries in
    let l = c.later.ensures.temporaries in
    let m = c.both.ensures.temporaries in
    let whole = ap (λ (o : Operand). rooms (before o rest)) c.in-Code.is in
    omega (arith, h, a, l, m, whole)

pub operand_counts-returns-in-Code-clause-arrays : goal.operand_counts-returns-in-Code-clause-arrays
operand_counts-returns-in-Code-clause-arrays t c = λ rest h.
    let a = c.counts_in.ensures.arrays in
    let l = c.later.ensures.arrays in
    let m = c.both.ensures.arrays in
    let whole = ap (λ (o : Operand). arrays_among (before o rest)) c.in-Code.is in
    omega (arith, h, a, l, m, whole)

pub operand_counts-returns-in-Code-clause-labels : goal.operand_counts-returns-in-Code-clause-labels
operand_counts-returns-in-Code-clause-labels t c = λ rest h.
    let a = c.counts_in.ensures.labels in
    let l = c.later.ensures.labels in
    let m = c.both.ensures.labels in
    let whole = ap (λ (o : Operand). labels_among (before o rest)) c.in-Code.is in
    omega (arith, h, a, l, m, whole)

pub counts_among-loop-left-preserved : goal.counts_among-loop-left-preserved
counts_among-loop-left-preserved t c =
    let more = one_before c.args.operands.now c.loop-left.left (c.loop-left.left - 1) c.index-operands-left.result (omega arith) c.loop-left.invariant.inside c.index-operands-left.is in
    record {
      temporaries = c.operand_counts-needed.ensures.temporaries (views (drop c.loop-left.left c.args.operands.now)) c.loop-left.invariant.temporaries ∙ ap (λ (es : plain.Codes). counted (rooms es)) more;
      arrays = c.operand_counts-needed.ensures.arrays (views (drop c.loop-left.left c.args.operands.now)) c.loop-left.invariant.arrays ∙ ap (λ (es : plain.Codes). counted (arrays_among es)) more;
      iterators = c.operand_counts-needed.ensures.iterators ∙ c.loop-left.invariant.iterators;
      labels = c.operand_counts-needed.ensures.labels (views (drop c.loop-left.left c.args.operands.now)) c.loop-left.invariant.labels ∙ ap (λ (es : plain.Codes). counted (labels_among es)) more;
      inside = omega arith;
    }
