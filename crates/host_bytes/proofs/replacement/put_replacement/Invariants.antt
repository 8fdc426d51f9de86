use Rattle.std.proofs.Common.{◌≤◌, Ok, length}
use Rattle.sem_primitives.specs.TextMeaning.{replacement}
use Rattle.host_bytes.specs.Growing.{Grows}
use Rattle.host_bytes.specs.declared.growing.Growing.{Growing}
use Rattle.host_bytes.proofs.replacement.put_replacement.Given as goal

abbrev pub invariant-loop-at : goal.invariant-loop-at
invariant-loop-at l = record {
  short : length l.rest ≤ length l.by;
  grows : (end : Growing) → Grows l.out end (Ok (replacement l.matched l.rest)) → Grows l.fn.out end (Ok (replacement l.matched l.by));
}

abbrev pub decreases-loop-at : goal.decreases-loop-at
decreases-loop-at l = length l.rest
