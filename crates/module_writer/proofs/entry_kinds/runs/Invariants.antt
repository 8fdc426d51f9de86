use Rattle.std.proofs.Common.{◌≡◌, ◌≤◌, ◌+◌, ◌++◌, drop}
use Rattle.module_writer.specs.Writing.{runs_from, runs_of}
use Rattle.module_writer.proofs.entry_kinds.runs.Given as goal

abbrev pub invariant-loop-t : goal.invariant-loop-t
invariant-loop-t l = record {
  few : l.n ≤ l.t-index + 1;
  so_far : l.all.items ++ runs_from l.n l.kind (drop l.t-index l.rest) ≡ runs_of l.fn.locals;
}
