use Rattle.awk_parse.proofs.ParsedLemmas.{stays, then, past}
use Rattle.awk_parse.proofs.stmt.enclosed.Goals as goal

pub returns : goal.returns
returns c = past _ c.expect.ensures (then _ c.expression-first.ensures (past _ c.expect-2.ensures (then _ c.list-others.ensures (past _ c.expect-3.ensures (past _ c.no_in.ensures (stays _ _))))))
