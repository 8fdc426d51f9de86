use Rattle.std.proofs.Common.{ap, sym, ◌∙◌}
use Rattle.sem_primitives.specs.MainInput.{main_input}
use Rattle.host_worlds.specs.States.{Over, with_tables}
use Rattle.host_worlds.proofs.MainFound.{found_given, found_on, found_stop}
use Rattle.host_worlds.proofs.Turns.{moved_on, turn_none, turn_some}
use Rattle.host_streams.proofs.Given.{none_then}
use Rattle.host_worlds.proofs.main_record.given.Goals as goal

pub returns-in-Ok-Some-clause-told : goal.returns-in-Ok-Some-clause-told
returns-in-Ok-Some-clause-told g c = λ tells inner offered.
    c.turns.invariant.told tells inner offered
    ∙ ap (λ x. main_input x (with_tables c.turns.texts c.turns.input (Over (g.W.World.state c.turns.world)) inner)) (sym (c.turns.invariant.outside tells))
    ∙ turn_some c.in-Ok-Some.given _ _ _ c.in-Ok-Some.field-0-is (c.in-Ok-Some.ensures.told tells inner offered)

pub returns-in-Ok-Some-clause-finds : goal.returns-in-Ok-Some-clause-finds
returns-in-Ok-Some-clause-finds g c =
    found_given (g.O.Operands.text c.args.operands.now) c.args.texts.now c.turns.texts c.turn.new.texts c.args.input.now c.turns.input c.turn.new.input c.in-Ok-Some.given c.in-Ok-Some.field-0-is c.turns.invariant.finds c.in-Ok-Some.ensures.finds

pub returns-in-Err-clause-finds : goal.returns-in-Err-clause-finds
returns-in-Err-clause-finds g c =
    found_stop (g.O.Operands.text c.args.operands.now) c.args.texts.now c.turns.texts c.turn.new.texts c.args.input.now c.turns.input c.turn.new.input c.in-Err.stop c.turns.invariant.finds c.in-Err.ensures.finds

pub turns-preserved : goal.turns-preserved
turns-preserved g c =
    let before = c.turns.invariant in
    let step = c.in-Ok-None.ensures in
    record {
      gives = none_then g.W.World.did _ _ _ c.turns.invariant.gives c.in-Ok-None.ensures.gives;
      held = step.held;
      goes = step.goes;
      outside = λ tells. step.outside tells ∙ before.outside tells;
      rest = moved_on c.args.input.now c.turns.input c.turn.new.input before.rest step.rest;
      finds = found_on (g.O.Operands.text c.args.operands.now) c.args.texts.now c.turns.texts c.turn.new.texts c.args.input.now c.turns.input c.turn.new.input c.in-Ok-None.field-0-is before.finds step.finds;
      told = λ tells inner offered.
          before.told tells inner offered
          ∙ ap (λ x. main_input x (with_tables c.turns.texts c.turns.input (Over (g.W.World.state c.turns.world)) inner)) (sym (before.outside tells))
          ∙ turn_none _ (g.W.World.state c.turns.world).outside (with_tables c.turn.new.texts c.turn.new.input (Over (g.W.World.state c.turn.new.world)) inner) c.in-Ok-None.field-0-is (step.told tells inner offered)
          ∙ ap (λ x. main_input x (with_tables c.turn.new.texts c.turn.new.input (Over (g.W.World.state c.turn.new.world)) inner)) (before.outside tells);
    }

pub returns-in-Ok-Some-clause-gives : goal.returns-in-Ok-Some-clause-gives
returns-in-Ok-Some-clause-gives g c = none_then g.W.World.did _ _ _ c.turns.invariant.gives c.in-Ok-Some.ensures.gives

pub returns-in-Err-clause-gives : goal.returns-in-Err-clause-gives
returns-in-Err-clause-gives g c = none_then g.W.World.did _ _ _ c.turns.invariant.gives c.in-Err.ensures.gives
