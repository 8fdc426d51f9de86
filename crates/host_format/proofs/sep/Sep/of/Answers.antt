use Rattle.sem_primitives.specs.Fields.{Expression}
use Rattle.host_format.proofs.Refusals.{ere_separates}
use Rattle.host_format.proofs.sep.Sep.of.Goals as goal

pub returns-clause-ok : goal.returns-clause-ok
returns-clause-ok c = ere_separates c.args.text.now c.in_ok-auto.auto c.in_default.ensures.none c.in_ok-auto.ensures.ok

pub returns-clause-sep : goal.returns-clause-sep
returns-clause-sep c =
    let is = c.in_ok-auto.ensures.auto in
    (Expression is.0, is.1)
