use Rattle.std.proofs.Common.{arith}
use Rattle.ere_match.proofs.numbers.rank_all.Goals as goal

pub returns : goal.returns
returns c = record {
  len = omega (arith, c.requires.len, c.loop-id.auto.ranks);
  at = λ k less. c.loop-id.invariant k (omega (arith, c.loop-id-test.false));
}
