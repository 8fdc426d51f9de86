use Rattle.std.proofs.Common.{◌*◌, ◌+◌, ◌-◌}
use Rattle.wasm_types.specs.View.{views}
use Rattle.module_decoder.specs.Readings.{Reads}
use Rattle.module_decoder.specs.Reading.{body_at, body_by}
use Rattle.module_decoder.proofs.Loops.{with_front}
use Rattle.module_decoder.proofs.body.+body.Given as goal

abbrev pub decreases-nested : goal.decreases-nested
decreases-nested l = 3 * l.limit + 1

abbrev pub decreases-instr : goal.decreases-instr
decreases-instr l = 3 * l.limit + 2

abbrev pub decreases-body_of : goal.decreases-body_of
decreases-body_of l = 3 * l.limit

abbrev pub invariant-body_of-loop : goal.invariant-body_of-loop
invariant-body_of-loop l =
    Reads l.fn.reader l.reader (with_front (views l.instrs.items) (body_by l.fn.reader.span (body_at l.fn.reader.span (l.limit - 1)) (l.turns - l.counter) l.reader.rest.now)) (body_at l.fn.reader.span l.limit l.fn.reader.rest.now)
