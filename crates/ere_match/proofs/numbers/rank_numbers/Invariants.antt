use Rattle.ere_match.specs.Rows.{IsRankedTo}
use Rattle.ere_match.proofs.numbers.rank_numbers.Given as goal

abbrev pub invariant-loop-number : goal.invariant-loop-number
invariant-loop-number l = IsRankedTo l.number l.fn.sources.items l.fn.used l.used l.sources.items l.count
