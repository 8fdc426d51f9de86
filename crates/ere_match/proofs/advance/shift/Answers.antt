use Rattle.std.proofs.Common.{arith, ◌∙◌, length-set}
use Rattle.ere_match.proofs.Tables.{shifted_on}
use Rattle.ere_match.proofs.advance.shift.Goals as goal

pub loop-number-preserved : goal.loop-number-preserved
loop-number-preserved c =
    let s = c.loop-number in
    let n = shifted_on c.args.starts.now s.starts c.args.sources.now c.args.count c.args.at c.args.fewer s.number c.args.to c.loop-number-test.true (omega (arith, c.requires.fewer, s.invariant.len, c.loop-number-test.true)) c.requires.increasing s.invariant.done s.invariant.rest in
    record { done = n.0; rest = n.1; len = length-set s.starts s.number _ ∙ s.invariant.len }
