use Rattle.std.proofs.Common.{rules, ◌≡◌, [], Some, Ok, ap, subst, sym, ◌∙◌}
use Rattle.std.specs.FinMap as map
use Rattle.sem_primitives.specs.declared.table.Primitive.TheVariants as row
use Rattle.host_imports.specs.declared.import.Import.TheVariants.{OfPrimitive}
use Rattle.host_values.specs.Calls.{reserved_handle}
use Rattle.host_values.proofs.ReservedHandle.{reserved_removed}
use Rattle.host_values.specs.WorldCalls.{IsCalled}
use Rattle.host_worlds.specs.Forms.{closing}
use Rattle.host_worlds.proofs.Closings.{close_closes, close_traps, close_wants, targets_beside}
use Rattle.host_streams.proofs.Given.{none_still}
use Rattle.host_worlds.proofs.closing.close.Goals as goal

pub returns-in-Err-clause-step : goal.returns-in-Err-clause-step
returns-in-Err-clause-step g c = λ f memory none. close_traps g.W.World.is_modelled f c.args.words.now memory none c.args.handles.now c.args.streams.now (g.W.World.state c.args.world.now) c.in-Err.kind (sym c.in-Err.ensures)

pub returns-in_default-clause-step : goal.returns-in_default-clause-step
returns-in_default-clause-step g c = λ f memory none. close_wants g.W.World.is_modelled f c.args.words.now memory none c.args.handles.now c.args.streams.now (g.W.World.state c.args.world.now) c.in-Ok.read.0 c.in-Ok.read.1.now (sym c.in-Ok.ensures)

pub returns-clause-step : goal.returns-clause-step
returns-clause-step g c = λ f memory none.
    let before = g.W.World.state c.args.world.now in
    let after = g.W.World.state c.close-closed.new.world in
    let files = c.close-closed.new.self in
    let gone : c.take.new.self ≡ map.remove c.args.handles.now c.in-Ok.read.0 = search rules in
    subst (λ w. IsCalled g.W.World.is_modelled (OfPrimitive row.Close) (closing c.args.handles.now c.args.streams.now before f) c.args.words.now memory (Ok (Some w)) (closing c.take.new.self files after f) []) (sym c.code.ensures)
    (close_closes g.W.World.is_modelled f c.args.words.now memory none c.args.handles.now c.args.streams.now before c.in-Ok.read.0 c.in-Ok.read.1.now c.as_slice.result.now (sym c.in-Ok.ensures)
    (c.as_slice.ensures.value ∙ c.in-Ok-to_text.ensures.ok) c.take.new.self gone files after c.close-closed.result c.close-closed.ensures.answer
    c.close-closed.ensures.readers c.close-closed.ensures.writer_names c.close-closed.ensures.told c.close-closed.ensures.outside)

pub returns-clause-reserved : goal.returns-clause-reserved
returns-clause-reserved g c free = ap (λ m. map.get m reserved_handle) c.take.ensures.rest ∙ reserved_removed c.args.handles.now _ free

pub returns-in-Err-clause-gives : goal.returns-in-Err-clause-gives
returns-in-Err-clause-gives g c = none_still g.W.World.did c.args.world.now

pub returns-in_default-clause-gives : goal.returns-in_default-clause-gives
returns-in_default-clause-gives g c = none_still g.W.World.did c.args.world.now

pub returns-in-Err-clause-left : goal.returns-in-Err-clause-left
returns-in-Err-clause-left g c = λ targets are. are

pub returns-in_default-clause-left : goal.returns-in_default-clause-left
returns-in_default-clause-left g c = λ targets are. are

pub returns-clause-left : goal.returns-clause-left
returns-clause-left g c = λ targets are. targets_beside c.as_slice.result.now _ _ targets c.close-closed.ensures.writers are
