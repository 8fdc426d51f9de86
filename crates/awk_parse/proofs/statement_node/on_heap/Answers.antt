use Rattle.awk_parse.proofs.HeldLemmas.{boxed_went, boxed_held}
use Rattle.awk_parse.proofs.statement_node.on_heap.Goals as goal

pub returns-clause-read : goal.returns-clause-read
returns-clause-read c = boxed_went _ _ _ _ c.boxed.ensures

pub returns-clause-held : goal.returns-clause-held
returns-clause-held c = boxed_held _ _ _ _ c.boxed.ensures
