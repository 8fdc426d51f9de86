use Rattle.std.proofs.Common.{◌≡◌, ◌-◌}
use Rattle.wasm_types.specs.Leb128Texts.{u32_at}
use Rattle.script_places.specs.Reading.{items_at}
use Rattle.script_places.proofs.Loops.{with_front}
use Rattle.script_places.proofs.reading.take_numbers.Given as goal

abbrev pub invariant-loop : goal.invariant-loop
invariant-loop l = with_front l.made.items (items_at u32_at (l.count - l.counter) l.rest) ≡ items_at u32_at l.count l.bytes
