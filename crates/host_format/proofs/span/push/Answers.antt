use Rattle.host_format.proofs.Pieces.{part_pushed}
use Rattle.host_format.proofs.span.push.Goals as goal

pub returns-then-len-capacity : goal.returns-then-len-capacity
returns-then-len-capacity c = λ text rest total a b s. part_pushed text c.args.spans.now.items c.push_reserved.new.self.items c.args.start c.args.end rest total a b c.push_reserved.ensures.items s
