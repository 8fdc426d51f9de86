use Rattle.awk_parse.proofs.ParsedLemmas.{past}
use Rattle.awk_parse.proofs.flow.ended.Goals as goal

pub returns-clause-read : goal.returns-clause-read
returns-clause-read c = past _ c.expect.ensures c.on_heap.ensures.read

pub returns-clause-held : goal.returns-clause-held
returns-clause-held c = c.on_heap.ensures.held
