use Rattle.std.proofs.Common.{arith, length}
use Rattle.ere_match.proofs.Ranks.{rank_small, unloaded}
use Rattle.ere_match.proofs.numbers.unload.Goals as goal

pub start_at-requires : goal.start_at-requires
start_at-requires c = rank_small c.args.ranks.now c.loop-id.id (length c.args.starts.now) c.requires.few

pub returns : goal.returns
returns c = unloaded c.args.starts.now c.args.ranks.now c.loop-id.set (omega (arith, c.requires.len, c.loop-id.auto.set)) (λ k less. c.loop-id.invariant k (omega (arith, c.loop-id-test.false)))
