use Rattle.std.proofs.Common.{◌≡◌, map, take, length}
use Rattle.wasm_types.specs.View.{view_data}
use Rattle.wasm_model.specs.Links.{poured}
use Rattle.wasm_machine.proofs.link.pour.Given as goal

abbrev pub invariant-loop-segment : goal.invariant-loop-segment
invariant-loop-segment l = record { same : length l.memory.bytes ≡ length l.fn.memory.bytes; poured : l.memory ≡ poured l.fn.memory (map view_data (take l.segment-index l.segments)) }
