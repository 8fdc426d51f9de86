use Rattle.std.proofs.Common.{◌≡◌, ◌-◌, map}
use Rattle.script_places.specs.Lines.{form_of}
use Rattle.script_places.specs.Reading.{function_at, items_at}
use Rattle.script_places.proofs.Loops.{with_front}
use Rattle.script_places.proofs.reading.take_functions.Given as goal

abbrev pub invariant-loop : goal.invariant-loop
invariant-loop l = with_front (map form_of l.made.items) (items_at function_at (l.count - l.counter) l.rest) ≡ items_at function_at l.count l.bytes
