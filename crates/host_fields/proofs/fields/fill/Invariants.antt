use Rattle.std.proofs.Common.{◌≡◌, map, take}
use Rattle.awk_values.specs.Values.{text_of_value}
use Rattle.host_fields.specs.Held.{field_at}
use Rattle.host_fields.proofs.fields.fill.Given as goal

abbrev pub invariant-loop-span : goal.invariant-loop-span
invariant-loop-span l = l.own.items ≡ map (field_at (text_of_value l.whole)) (take l.span-index l.spans)
