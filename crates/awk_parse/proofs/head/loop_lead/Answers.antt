use Rattle.awk_parse.proofs.ParsedLemmas.{stays, then, past}
use Rattle.awk_parse.proofs.head.loop_lead.Goals as goal

pub returns-in-While : goal.returns-in-While
returns-in-While c = rw c.in-While.is (then _ c.condition.ensures (stays _ _))

pub returns-in-Do : goal.returns-in-Do
returns-in-Do c = rw c.in-Do.is (stays _ _)

pub returns-in-For : goal.returns-in-For
returns-in-For c = rw c.in-For.is (past _ c.expect.ensures c.keyed.ensures)
