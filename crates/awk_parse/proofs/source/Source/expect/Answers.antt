use Rattle.awk_parse.specs.Marks.{mark_at}
use Rattle.awk_parse.proofs.ParsedLemmas.{passes, fails_to_pass}
use Rattle.awk_parse.proofs.source.Source.expect.Goals as goal

pub returns-in-Some : goal.returns-in-Some
returns-in-Some c = passes _ _ _ _ _ c.go_on.ensures c.in-Some.ensures.must

pub returns-in-None : goal.returns-in-None
returns-in-None c = fails_to_pass _ _ _ _ (mark_at c.args.mark) c.refuse.ensures (rw c.stopped.ensures c.in-None.ensures.must)
