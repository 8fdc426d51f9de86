use Rattle.awk_parse.proofs.ParsedLemmas.{stays, then, past}
use Rattle.awk_parse.proofs.stmt.condition.Goals as goal

pub returns : goal.returns
returns c = past _ c.expect.ensures (then _ c.expression-test.ensures (past _ c.expect-2.ensures (stays _ _)))
