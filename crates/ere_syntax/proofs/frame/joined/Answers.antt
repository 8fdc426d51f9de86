use Rattle.ere_syntax.proofs.Viewed.{made_concat}
use Rattle.ere_syntax.proofs.frame.joined.Goals as goal

pub returns : goal.returns
returns c = made_concat c.push.new.items c.args.pieces.items c.args.last c.in_ok-push.ensures.items
