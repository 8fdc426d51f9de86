use Rattle.std.proofs.Common.{◌+◌, ◌≤◌, drop}
use Rattle.wasm_types.specs.View.{views}
use Rattle.lower_modules.specs.Lengths.{least_in}
use Rattle.lower_modules.proofs.lengths.+lengths.Given as goal

abbrev pub invariant-least_in-loop-instr : goal.invariant-least_in-loop-instr
invariant-least_in-loop-instr l = l.bytes + least_in (views (drop l.instr-index l.code)) ≤ least_in (views l.code)
