use Rattle.std.proofs.Common.{◌≤◌, ap, arith}
use Rattle.std.proofs.lemmas.Result.{IfOk-weaker}
use Rattle.mid_program.specs.ViewCode.{view_step, view_steps}
use Rattle.wasm_types.specs.Syntax.{Instructions}
use Rattle.wasm_types.specs.View.{views}
use Rattle.lower_model.specs.Statements.{step_emitted, steps_emitted}
use Rattle.lower_expressions.specs.View.{view_layout}
use Rattle.lower_modules.specs.Lengths.{least_in}
use Rattle.lower_modules.specs.Limits.{most_bytes}
use Rattle.lowering.specs.Lengths.{Weighs}
use Rattle.lowering.proofs.Stepping.{block_fits, block_places}
use Rattle.lowering.proofs.Weighing.{block_least, first_alone, next_least, none_left, piece, rest_few, rest_fits, weighed}
use Rattle.lowering.proofs.lengths.+lengths.Goals as goal

pub step_length-steps_length-requires : goal.step_length-steps_length-requires
step_length-steps_length-requires t c =
    let n = block_places c.args.step.now c.in-Block.steps c.deref.result.now c.in-Block.is c.deref.ensures.value in
    (omega (arith, n), block_fits (view_layout c.args.layout.now) c.args.step.now c.in-Block.steps c.deref.result.now 0 0 c.in-Block.is c.deref.ensures.value c.requires)

pub step_length-returns-in-Block : goal.step_length-returns-in-Block
step_length-returns-in-Block t c =
    IfOk-weaker c.steps_length.result
    (λ n. Weighs n (steps_emitted (view_layout c.args.layout.now) (view_steps c.deref.result.now) 0 0 0 0))
    (λ n. Weighs n (step_emitted (view_layout c.args.layout.now) (view_step c.args.step.now) 0 0 0 0))
    (λ n h. block_least (view_layout c.args.layout.now) c.args.step.now c.in-Block.steps c.deref.result.now n c.in-Block.is c.deref.ensures.value h)
    c.steps_length.ensures

pub step_length-returns-in_ok-code-in_default : goal.step_length-returns-in_ok-code-in_default
step_length-returns-in_ok-code-in_default t c =
    let code = c.in_ok-code-in_default.code.items in
    let least : c.least_in.result ≤ least_in (views code) = rw c.deref-in_default.ensures.value at c.least_in.ensures in
    let emitted = step_emitted (view_layout c.args.layout.now) (view_step c.args.step.now) 0 0 0 0 in
    weighed c.least_in.result emitted (piece emitted code c.least_in.result (λ k. c.in_ok-code-in_default.ensures k _ (c.inner.ensures k)) least)

pub steps_length-loop-step-preserved : goal.steps_length-loop-step-preserved
steps_length-loop-step-preserved t c =
    let y = view_layout c.args.layout.now in
    let ss = c.args.steps.now in
    let i = c.loop-step.step-index in
    let s = c.step-item.result in
    let few = rest_few ss i s (omega arith) c.step-item.is in
    let before = c.loop-step.invariant.few in
    let sum = c.saturating_add-bytes.ensures in
    let short = c.if-bytes-gt-MOST_BYTES.false in
    let own : c.in_ok-step_length.field-0 ≤ most_bytes = omega (arith, sum, short) in
    record {
      short = omega (arith, short);
      few = omega (arith, few, before);
      fit = rest_fits y ss i s (omega arith) c.loop-step.invariant.fit;
      long = λ k.
          let le = next_least y ss i s c.loop-step.bytes c.in_ok-step_length.field-0 (least_in (steps_emitted y (view_steps ss) 0 0 0 0 k)) k (omega arith) c.step-item.is (c.in_ok-step_length.ensures.1 own) (c.loop-step.invariant.long k) in
          omega (arith, le, sum);
    }

pub steps_length-returns-then-bytes-gt-MOST_BYTES : goal.steps_length-returns-then-bytes-gt-MOST_BYTES
steps_length-returns-then-bytes-gt-MOST_BYTES t c = (alone, λ few. let past = c.if-bytes-gt-MOST_BYTES.true in absurd (omega (arith, few, past)))
  where
    alone : (k : Instructions) → c.saturating_add-bytes.result ≤ least_in (steps_emitted (view_layout c.args.layout.now) (view_steps c.args.steps.now) 0 0 0 0 k)
    alone k =
        let le = first_alone (view_layout c.args.layout.now) c.args.steps.now c.loop-step.step-index c.step-item.result c.loop-step.bytes c.in_ok-step_length.field-0
        (least_in (steps_emitted (view_layout c.args.layout.now) (view_steps c.args.steps.now) 0 0 0 0 k)) k (omega arith) c.step-item.is c.in_ok-step_length.ensures.0 (c.loop-step.invariant.long k) in
        let sum = c.saturating_add-bytes.ensures in
        omega (arith, le, sum)

pub steps_length-returns : goal.steps_length-returns
steps_length-returns t c = weighed c.loop-step.bytes (steps_emitted (view_layout c.args.layout.now) (view_steps c.args.steps.now) 0 0 0 0) (λ k.
    let e = ap least_in (none_left (view_layout c.args.layout.now) c.args.steps.now c.loop-step.step-index k c.loop-step-test.false) in
    let long = c.loop-step.invariant.long k in
    omega (arith, e, long))
