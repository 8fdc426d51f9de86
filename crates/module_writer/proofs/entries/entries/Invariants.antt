use Rattle.std.proofs.Common.{drop, map}
use Rattle.module_writer.specs.declared.output.Output.{Output}
use Rattle.module_writer.specs.Outputs.{Adds}
use Rattle.module_writer.specs.Writers.{each_to, vec_to}
use Rattle.module_writer.proofs.entries.entries.Given as goal

abbrev pub invariant-loop-one : goal.invariant-loop-one
invariant-loop-one g l =
    (end : Output) → Adds l.out end (each_to g.K.Kind.writes (map g.K.Kind.form (drop l.one-index l.all)) l.out.bytes.items) → Adds l.fn.out end (vec_to g.K.Kind.writes (map g.K.Kind.form l.all) l.fn.out.bytes.items)
