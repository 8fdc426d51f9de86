use Rattle.ere_syntax.specs.View.{view}
use Rattle.ere_syntax.proofs.Framed.{repeated_size}
use Rattle.ere_syntax.proofs.frame.repeated.Goals as goal

pub returns-in_ok-boxed-in-Some-clause-sized : goal.returns-in_ok-boxed-in-Some-clause-sized
returns-in_ok-boxed-in-Some-clause-sized c = λ sized. rw c.in_ok-boxed-in-Some.ensures.ok (repeated_size c.args.part.size c.repeated.result c.in-Some.size (view c.args.part.ere) c.args.times.low c.args.times.high sized c.repeated.ensures.positions c.repeated.ensures.nesting c.in-Some.ensures.some.0 c.in-Some.ensures.some.1)
