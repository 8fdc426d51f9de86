use Rattle.std.proofs.Common.{◌-◌, map}
use Rattle.module_decoder.specs.Readers.{each_at, vec_at}
use Rattle.module_decoder.specs.Readings.{Reads}
use Rattle.module_decoder.proofs.Loops.{with_items}
use Rattle.module_decoder.proofs.entries.entries.Given as goal

abbrev pub invariant-loop : goal.invariant-loop
invariant-loop g l =
    Reads l.fn.reader l.reader (with_items (map g.K.Kind.form l.all.items) (each_at (g.K.Kind.reads l.fn.reader.span) (l.count - l.counter) l.reader.rest.now)) (vec_at l.fn.reader.span (g.K.Kind.reads l.fn.reader.span) l.fn.reader.rest.now)
