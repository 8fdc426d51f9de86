use Rattle.std.proofs.Common.{arith}
use Rattle.ere_match.proofs.table.settle.Goals as goal

pub close-requires-clause-starts : goal.close-requires-clause-starts
close-requires-clause-starts c = λ k s h. (let x = c.sow.ensures.numbers k s h in omega (arith, x))

pub returns-clause-settled : goal.returns-clause-settled
returns-clause-settled c = record { begun = c.sow.new.set; begins = c.sow.ensures.begins; closes = c.close.ensures }

pub returns-clause-numbers : goal.returns-clause-numbers
returns-clause-numbers c = λ id s h. (let o = c.close.ensures.starts.at id s h in c.sow.ensures.numbers o.0 s o.1)
