use Rattle.std.proofs.Common.{◌+◌, ◌*◌, drop}
use Rattle.wasm_types.specs.View.{views}
use Rattle.module_writer.specs.declared.output.Output.{Output}
use Rattle.module_writer.specs.Outputs.{Adds}
use Rattle.module_writer.specs.Writing.{instrs_to}
use Rattle.module_writer.proofs.body.+body.Given as goal

abbrev pub decreases-block : goal.decreases-block
decreases-block l = 3 * l.limit

abbrev pub decreases-instr : goal.decreases-instr
decreases-instr l = 3 * l.limit + 1

abbrev pub decreases-instrs : goal.decreases-instrs
decreases-instrs l = 3 * l.limit + 2

abbrev pub invariant-instrs-loop-i : goal.invariant-instrs-loop-i
invariant-instrs-loop-i l = (end : Output) → Adds l.out end (instrs_to l.limit (views (drop l.i-index l.all)) l.out.bytes.items) → Adds l.fn.out end (instrs_to l.limit (views l.all) l.fn.out.bytes.items)
