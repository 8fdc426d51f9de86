use Rattle.std.proofs.Common.{◌≡◌, ◌-◌}
use Rattle.script_places.specs.Reading.{held, own_in, own_section}
use Rattle.script_places.proofs.sections.own_section.Given as goal

abbrev pub invariant-loop : goal.invariant-loop
invariant-loop l = own_in (l.turns - l.counter) (held l.found) l.rest ≡ own_section l.bytes
