use Rattle.std.proofs.Common.{◌≡◌, ◌++◌, drop}
use Rattle.sem_primitives.specs.FieldMeaning.{joined}
use Rattle.host_fields.proofs.Joins.{followed}
use Rattle.host_fields.proofs.joined.put_all.Given as goal

abbrev pub invariant-loop-value : goal.invariant-loop-value
invariant-loop-value l = l.out.items ++ followed l.between (drop l.value-index l.rest) ≡ joined l.between l.values
