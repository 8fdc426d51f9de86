use Rattle.ere_syntax.specs.View.{view}
use Rattle.ere_syntax.proofs.Framed.{finish_sized}
use Rattle.ere_syntax.proofs.frame.finish.Goals as goal

pub returns-in_ok-ere-in-Some-clause-sized : goal.returns-in_ok-ere-in-Some-clause-sized
returns-in_ok-ere-in-Some-clause-sized c =
    finish_sized c.args.frame c.in-Some.last c.beside.result (view c.in_ok-branch-in-Some.branch) (view c.in_ok-ere-in-Some.ere) c.in-Some.is c.in_ok-branch-in-Some.ensures c.in_ok-ere-in-Some.ensures c.beside.ensures.positions c.beside.ensures.nesting
