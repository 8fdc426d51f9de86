use Rattle.awk_parse.proofs.ParsedLemmas.{then}
use Rattle.awk_parse.proofs.flow.short.Goals as goal

pub returns-in-Leave-clause-read : goal.returns-in-Leave-clause-read
returns-in-Leave-clause-read c = rw c.in-Leave.is (then _ c.optional-value.ensures c.ended-in-Leave.ensures.read)
