use Rattle.ere_syntax.specs.View.{view}
use Rattle.host_format.proofs.Refusals.{refused_is, tree_is}
use Rattle.host_format.proofs.eres.expression.Goals as goal

pub returns-in-Err-clause-err : goal.returns-in-Err-clause-err
returns-in-Err-clause-err c = rw c.stop_of.ensures (refused_is c.args.text.now c.in-Err.fault c.in-Err.ensures.refused)

pub returns-in-Ok-build-clause-ok : goal.returns-in-Ok-build-clause-ok
returns-in-Ok-build-clause-ok c =
    (view c.in-Ok.ere, tree_is c.args.text.now (view c.in-Ok.ere) c.in-Ok.ensures.tree, c.in-Ok-build.ensures.auto)
