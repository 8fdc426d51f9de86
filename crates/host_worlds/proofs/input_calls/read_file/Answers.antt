use Rattle.std.proofs.Common.{rules, ◌≡◌, [], ap, subst, sym, ◌∙◌}
use Rattle.std.specs.FinMap as map
use Rattle.host_imports.specs.declared.import.Import.TheVariants.{OfPrimitive}
use Rattle.host_values.specs.Calls.{reserved_handle}
use Rattle.host_values.proofs.ReservedHandle.{reserved_removed}
use Rattle.host_values.specs.WorldCalls.{IsCalled}
use Rattle.host_worlds.specs.Calls.{shown_after, with_values}
use Rattle.host_worlds.specs.Givens.{file_primitive}
use Rattle.host_worlds.specs.States.{over_world}
use Rattle.host_worlds.proofs.FileCalls.{file_answers, file_trapped, file_wanted}
use Rattle.host_streams.proofs.Given.{none_still}
use Rattle.host_worlds.proofs.input_calls.read_file.Goals as goal

pub returns-in-Err-clause-called : goal.returns-in-Err-clause-called
returns-in-Err-clause-called g c = λ f memory none.
    file_trapped g.W.World.is_modelled c.args.to f c.args.words.now memory none c.args.handles.now c.args.texts.now c.args.input.now (g.W.World.state c.args.world.now) c.in-Err.kind (sym c.in-Err.ensures)

pub returns-in_default-clause-called : goal.returns-in_default-clause-called
returns-in_default-clause-called g c = λ f memory none.
    file_wanted g.W.World.is_modelled c.args.to f c.args.words.now memory none c.args.handles.now c.args.texts.now c.args.input.now (g.W.World.state c.args.world.now) c.in-Ok.read.0 c.in-Ok.read.1.now (sym c.in-Ok.ensures)

pub returns-clause-reserved : goal.returns-clause-reserved
returns-clause-reserved g c = λ free. ap (λ m. map.get m reserved_handle) c.take.ensures.rest ∙ reserved_removed c.args.handles.now _ free

pub returns-clause-called : goal.returns-clause-called
returns-clause-called g c = λ f memory none.
    let gone : c.take.new.self ≡ map.remove c.args.handles.now c.in-Ok.read.0 = search rules in
    let old = with_values c.args.handles.now (over_world c.args.texts.now c.args.input.now (g.W.World.state c.args.world.now) f) in
    let new = with_values c.take.new.self (over_world c.read.new.texts c.read.new.input (g.W.World.state c.read.new.world) f) in
    subst (λ r. IsCalled g.W.World.is_modelled (OfPrimitive (file_primitive c.args.to)) old c.args.words.now memory r (shown_after r old new) []) (sym c.answered.ensures)
    (file_answers g.W.World.is_modelled c.args.to f c.args.words.now memory none c.args.handles.now c.args.texts.now c.args.input.now (g.W.World.state c.args.world.now) c.in-Ok.read.0 c.in-Ok.read.1.now (sym c.in-Ok.ensures) c.take.new.self gone
    c.read.new.texts c.read.new.input (g.W.World.state c.read.new.world) c.read.result (λ y inner. c.read.ensures.told y inner c.in-Ok.read.1.now (sym (c.as_slice.ensures.value ∙ c.in-Ok-to_text.ensures.ok))) c.read.ensures.outside _ (sym (c.as_slice.ensures.value ∙ c.in-Ok-to_text.ensures.ok)) c.read.ensures.finds)

pub returns-in-Err-clause-gives : goal.returns-in-Err-clause-gives
returns-in-Err-clause-gives g c = none_still g.W.World.did c.args.world.now

pub returns-in_default-clause-gives : goal.returns-in_default-clause-gives
returns-in_default-clause-gives g c = none_still g.W.World.did c.args.world.now
