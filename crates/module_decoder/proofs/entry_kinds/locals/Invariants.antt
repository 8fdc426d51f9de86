use Rattle.std.proofs.Common.{◌-◌}
use Rattle.module_decoder.specs.Readings.{Reads}
use Rattle.module_decoder.specs.Reading.{locals_at, runs_at}
use Rattle.module_decoder.proofs.Loops.{with_items}
use Rattle.module_decoder.proofs.entry_kinds.locals.Given as goal

abbrev pub invariant-loop : goal.invariant-loop
invariant-loop l = Reads l.fn.reader l.reader (with_items l.all (runs_at l.fn.reader.span (l.count - l.counter) l.left l.reader.rest.now)) (locals_at l.fn.reader.span l.fn.reader.rest.now)
