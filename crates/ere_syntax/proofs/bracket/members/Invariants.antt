use Rattle.std.proofs.Common.{◌≡◌, length}
use Rattle.ere_syntax.specs.Reads.{read_members}
use Rattle.ere_syntax.proofs.Members.{rest_read}
use Rattle.ere_syntax.proofs.bracket.members.Given as goal

abbrev pub invariant-loop-after : goal.invariant-loop-after
invariant-loop-after l = record {
  same : rest_read l.first l.set.has l.rest ≡ read_members l.fn.text;
  len : length l.set.has ≡ 256;
}

abbrev pub decreases-loop-after : goal.decreases-loop-after
decreases-loop-after l = length l.rest
