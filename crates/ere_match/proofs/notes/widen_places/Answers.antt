use Rattle.ere_match.proofs.Ends.{noted_more}
use Rattle.ere_match.proofs.notes.widen_places.Goals as goal

pub loop-alloc-preserved : goal.loop-alloc-preserved
loop-alloc-preserved c = λ step place id n.
    c.loop-alloc.invariant step place id (noted_more step place id c.loop-alloc.marks.items c.push.new.self.items c.new.result c.in_ok-push.ensures.items c.new.ensures.items n)
