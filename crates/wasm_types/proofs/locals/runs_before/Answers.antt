use Rattle.std.proofs.Common.{◌+◌, ◌-◌, ◌/◌, ◌<◌, length, arith}
use Rattle.wasm_types.specs.declared.types.ValType.TheVariants.{I32}
use Rattle.wasm_types.proofs.RunLemmas.{start_next}
use Rattle.wasm_types.proofs.locals.runs_before.Goals as goal

pub loop-low-preserved-then-runs-middle : goal.loop-low-preserved-then-runs-middle
loop-low-preserved-then-runs-middle c =
    let runs = c.args.runs.now in
    let middle = c.loop-low.low + (c.loop-low.high - c.loop-low.low) / 2 in
    let lower = c.loop-low-test.true in
    let within = c.loop-low.invariant.within in
    let inside : middle < length runs = omega (arith, lower, within) in
    let next = start_next 0 runs middle (record { end = 0; ty = I32 }) inside in
    let passed = c.if-runs-middle.true in
    record {
      order = omega (arith, lower);
      within = within;
      begun = omega (arith, next, passed);
      left = c.loop-low.invariant.left;
    }
