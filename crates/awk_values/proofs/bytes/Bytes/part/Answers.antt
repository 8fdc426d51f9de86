use Rattle.awk_values.proofs.Parts.{part_of_part}
use Rattle.awk_values.proofs.bytes.Bytes.part.Goals as goal

pub returns : goal.returns
returns c =
    rw (c.in_ok-clone.ensures.cases, ← c.self.view_is)
    (part_of_part c.self.inside.shared.value.items c.self.inside.start c.self.inside.end c.args.from c.args.to c.requires.order (rw (← c.self.view_is) at c.requires.within))
