use Rattle.std.proofs.Common.{refl}
use Rattle.ere_syntax.specs.View.{view}
use Rattle.ere_syntax.proofs.Framed.{put_first, put_more, put_sized}
use Rattle.ere_syntax.proofs.frame.put.Goals as goal

pub returns-in-None-clause-same : goal.returns-in-None-clause-same
returns-in-None-clause-same c = λ neat. put_first c.args.frame (view c.args.part.ere) c.in-None.is neat

pub returns-in_ok-push-in-Some-clause-same : goal.returns-in_ok-push-in-Some-clause-same
returns-in_ok-push-in-Some-clause-same c = λ neat. put_more c.args.frame c.in-Some.before c.push.new.items.items (view c.args.part.ere) c.in-Some.is c.in_ok-push-in-Some.ensures.items

pub returns-in_ok-push-in-Some-clause-sized : goal.returns-in_ok-push-in-Some-clause-sized
returns-in_ok-push-in-Some-clause-sized c =
    put_sized c.args.frame _ c.in-Some.before c.args.part c.in-Some.is refl c.in_ok-push-in-Some.ensures.items refl c.beside.ensures.positions c.beside.ensures.nesting
