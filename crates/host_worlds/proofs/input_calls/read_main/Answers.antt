use Rattle.std.proofs.Common.{[], subst, sym}
use Rattle.host_imports.specs.declared.import.Import.TheVariants.{OfPrimitive}
use Rattle.host_values.specs.WorldCalls.{IsCalled}
use Rattle.host_worlds.specs.Calls.{shown_after}
use Rattle.host_worlds.specs.Givens.{main_primitive}
use Rattle.host_worlds.specs.States.{over_world}
use Rattle.host_worlds.proofs.MainCalls.{main_answers, main_pends, main_trapped}
use Rattle.host_streams.proofs.Given.{none_still}
use Rattle.host_worlds.proofs.input_calls.read_main.Goals as goal

pub returns-in-Err-clause-called : goal.returns-in-Err-clause-called
returns-in-Err-clause-called g c = λ f memory none same.
    main_trapped g.W.World.is_modelled c.args.how f memory none c.args.texts.now c.args.input.now (g.W.World.state c.args.world.now) c.args.words.now c.in-Err.kind (sym c.in-Err.ensures)

pub returns-then-is_pending-clause-called : goal.returns-then-is_pending-clause-called
returns-then-is_pending-clause-called g c = λ f memory none same.
    main_pends g.W.World.is_modelled c.args.how f memory none c.args.texts.now c.args.input.now (g.W.World.state c.args.world.now) c.args.words.now (sym c.in_default.ensures) (sym c.if-is_pending.ensures)

pub returns-clause-called : goal.returns-clause-called
returns-clause-called g c = λ f memory none same.
    let old = over_world c.args.texts.now c.args.input.now (g.W.World.state c.args.world.now) f in
    let new = over_world c.read.new.texts c.read.new.input (g.W.World.state c.read.new.world) f in
    subst (λ r. IsCalled g.W.World.is_modelled (OfPrimitive (main_primitive c.args.how)) old c.args.words.now memory r (shown_after r old new) []) (sym c.answered.ensures)
    (main_answers g.W.World.is_modelled c.args.how f memory none c.args.texts.now c.args.input.now (g.W.World.state c.args.world.now) c.args.arrays.now same (sym c.if-is_pending.ensures) c.read.new.texts c.read.new.input (g.W.World.state c.read.new.world) c.read.result
    c.read.ensures.told c.read.ensures.outside c.read.ensures.finds c.args.words.now (sym c.in_default.ensures))

pub returns-in-Err-clause-gives : goal.returns-in-Err-clause-gives
returns-in-Err-clause-gives g c = none_still g.W.World.did c.args.world.now

pub returns-then-is_pending-clause-gives : goal.returns-then-is_pending-clause-gives
returns-then-is_pending-clause-gives g c = none_still g.W.World.did c.args.world.now
