use Rattle.awk_parse.proofs.ParsedLemmas.{then}
use Rattle.awk_parse.proofs.flow.simple_statement.Goals as goal

pub returns-clause-read : goal.returns-clause-read
returns-clause-read c = then _ c.simple-inner.ensures c.ended.ensures.read

pub returns-clause-held : goal.returns-clause-held
returns-clause-held c = c.ended.ensures.held
