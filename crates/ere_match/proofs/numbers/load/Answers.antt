use Rattle.std.proofs.Common.{arith}
use Rattle.ere_match.proofs.Ranks.{loaded}
use Rattle.ere_match.proofs.numbers.load.Goals as goal

pub returns : goal.returns
returns c = loaded c.args.limit c.args.ranks.now c.loop-id.set (omega (arith, c.requires, c.loop-id.auto.set)) (λ k less. c.loop-id.invariant k (omega (arith, c.loop-id-test.false)))
