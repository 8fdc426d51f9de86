use Rattle.std.proofs.Common.{◌<◌, ◌≤◌, ◌-◌, length, get_or}
use Rattle.wasm_types.specs.declared.locals.Run.{Run}
use Rattle.wasm_types.specs.Runs.{start_of}
use Rattle.wasm_types.proofs.locals.runs_before.Given as goal

abbrev pub invariant-loop-low : goal.invariant-loop-low
invariant-loop-low l = record {
  order : l.low ≤ l.high;
  within : l.high ≤ length l.runs;
  begun : start_of 0 l.runs l.low ≤ l.number;
  left : (d : Run) → l.high < length l.runs → l.number < (get_or l.runs l.high d).end;
}

abbrev pub decreases-loop-low : goal.decreases-loop-low
decreases-loop-low l = l.high - l.low
