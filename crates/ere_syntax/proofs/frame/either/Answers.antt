use Rattle.ere_syntax.proofs.Viewed.{made_or}
use Rattle.ere_syntax.proofs.frame.either.Goals as goal

pub returns : goal.returns
returns c = made_or c.push.new.items c.args.branches.items c.args.last c.in_ok-push.ensures.items
