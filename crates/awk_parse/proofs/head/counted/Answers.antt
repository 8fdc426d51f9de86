use Rattle.awk_parse.specs.Bodies.{view_head}
use Rattle.awk_parse.proofs.ParsedLemmas.{no_memory, then, past}
use Rattle.awk_parse.proofs.HeldLemmas.{kept}
use Rattle.awk_parse.proofs.head.counted.Goals as goal

pub returns-in-Some : goal.returns-in-Some
returns-in-Some c =
    then _ c.optional_simple-first.ensures (past _ c.expect.ensures (then _ c.optional-test.ensures (past _ c.expect-2.ensures (then _ c.optional_simple-step.ensures (past _ c.expect-3.ensures (kept view_head _ _ _ _ c.in-Some.ensures))))))

pub returns-in-None : goal.returns-in-None
returns-in-None c =
    then _ c.optional_simple-first.ensures (past _ c.expect.ensures (then _ c.optional-test.ensures (past _ c.expect-2.ensures (then _ c.optional_simple-step.ensures (past _ c.expect-3.ensures (no_memory _ _ _ _ c.in-None.ensures))))))
