use Rattle.std.proofs.Common.{refl}
use Rattle.ere_syntax.proofs.Framed.{bar_is, bar_sized}
use Rattle.ere_syntax.proofs.frame.bar.Goals as goal

pub returns-in_ok-push-in-Some-clause-same : goal.returns-in_ok-push-in-Some-clause-same
returns-in_ok-push-in-Some-clause-same c =
    bar_is c.args.frame c.in-Some.last c.in_ok-branch-in-Some.branch c.push.new.items.items c.new.result.items c.in-Some.is c.in_ok-branch-in-Some.ensures c.in_ok-push-in-Some.ensures.items c.new.ensures.items

pub returns-in_ok-push-in-Some-clause-sized : goal.returns-in_ok-push-in-Some-clause-sized
returns-in_ok-push-in-Some-clause-sized c =
    bar_sized c.args.frame _ c.in-Some.last c.in_ok-branch-in-Some.branch c.in-Some.is c.in_ok-branch-in-Some.ensures c.in_ok-push-in-Some.ensures.items c.new.ensures.items refl c.beside.ensures.positions c.beside.ensures.nesting
