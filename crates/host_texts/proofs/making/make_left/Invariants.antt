use Rattle.std.proofs.Common.{◌≡◌, length}
use Rattle.sem_primitives.specs.SharedState.{Inner}
use Rattle.host_texts.specs.NameForms.{left_of}
use Rattle.host_texts.proofs.Assigned.{rest_by}
use Rattle.host_texts.proofs.making.make_left.Given as goal

abbrev pub invariant-loop-name : goal.invariant-loop-name
invariant-loop-name l = (inner : Inner) → rest_by l.fn.texts l.fn.names inner ≡ rest_by l.texts l.names inner

abbrev pub decreases-loop-name : goal.decreases-loop-name
decreases-loop-name l = length (left_of l.names)
