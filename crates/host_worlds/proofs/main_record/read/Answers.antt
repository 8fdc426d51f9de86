use Rattle.std.proofs.Common.{◌++◌, sym}
use Rattle.host_worlds.specs.States.{Finding, Over, with_tables}
use Rattle.host_worlds.proofs.Kept.{given_gives, stop_row}
use Rattle.host_streams.proofs.Given.{none_still}
use Rattle.host_worlds.proofs.main_record.read.Goals as goal

pub returns-in-Ok-clause-told : goal.returns-in-Ok-clause-told
returns-in-Ok-clause-told g c = λ tells inner offered.
    let old = g.W.World.state c.args.world.now in
    let new = g.W.World.state c.given.new.world in
    given_gives c.args.how old.outside (with_tables c.args.texts.now c.args.input.now (Over old) inner) c.in-Ok.given (with_tables c.given.new.texts c.given.new.input (Over new) inner) (with_tables c.answer.new.texts c.answer.new.input (Over new) inner) c.answer.result
    (sym c.if-is_over.ensures) (c.in-Ok.ensures.told tells inner offered) (c.answer.ensures.told (Over new) inner)

pub returns-in-Err-clause-told : goal.returns-in-Err-clause-told
returns-in-Err-clause-told g c = λ tells inner offered.
    let old = g.W.World.state c.args.world.now in
    stop_row c.args.how old.outside (with_tables c.args.texts.now c.args.input.now (Over old) inner) c.in-Err.stop (with_tables c.given.new.texts c.given.new.input (Over (g.W.World.state c.given.new.world)) inner) (sym c.if-is_over.ensures) (c.in-Err.ensures.told tells inner offered)

pub returns-in-Ok-clause-finds : goal.returns-in-Ok-clause-finds
returns-in-Ok-clause-finds g c =
    let finds = c.in-Ok.ensures.finds in (
      finds.0,
      λ later outside inner offered.
          given_gives c.args.how outside (with_tables c.args.texts.now c.args.input.now (Finding (finds.0 ++ later)) inner) c.in-Ok.given (with_tables c.given.new.texts c.given.new.input (Finding later) inner) (with_tables c.answer.new.texts c.answer.new.input (Finding later) inner) c.answer.result
          (sym c.if-is_over.ensures) (finds.1 later outside inner offered) (c.answer.ensures.told (Finding later) inner),
    )

pub returns-in-Err-clause-finds : goal.returns-in-Err-clause-finds
returns-in-Err-clause-finds g c =
    let finds = c.in-Err.ensures.finds in (
      finds.0,
      λ later outside inner offered.
          stop_row c.args.how outside (with_tables c.args.texts.now c.args.input.now (Finding (finds.0 ++ later)) inner) c.in-Err.stop (with_tables c.given.new.texts c.given.new.input (Finding later) inner) (sym c.if-is_over.ensures) (finds.1 later outside inner offered),
    )

pub returns-then-is_over-clause-gives : goal.returns-then-is_over-clause-gives
returns-then-is_over-clause-gives g c = none_still g.W.World.did c.args.world.now
