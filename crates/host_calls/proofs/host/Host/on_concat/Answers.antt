use Rattle.std.proofs.Common.{refl}
use Rattle.sem_primitives.specs.declared.table.Primitive.TheVariants as row
use Rattle.host_imports.specs.declared.import.Import.TheVariants.{OfPrimitive}
use Rattle.host_values.specs.ValueEvaluations.{concat_evaluation}
use Rattle.host_values.proofs.ValueRows.{concat_comes}
use Rattle.host_texts.specs.States.{holding}
use Rattle.host_calls.specs.Calls.{Gave}
use Rattle.host_calls.specs.Forms.{host_form}
use Rattle.host_calls.proofs.Comes.{none_kept, settled_means}
use Rattle.host_calls.proofs.Gaves.{gave_none}
use Rattle.host_calls.proofs.host.Host.on_concat.Goals as goal

pub concat-outcome-requires : goal.concat-outcome-requires
concat-outcome-requires g c = c.args.self.now.tables.free_handle

pub returns : goal.returns
returns g c memory =
    let host = c.args.self.now in
    let t = host.tables in
    let step = c.concat-outcome.ensures.step in
    settled_means g.W.World.is_modelled (Gave g.W.World.did c.args.self.now c.tell.new.self)
    (gave_none g.W.World.did c.args.self.now c.tell.new.self c.tell.ensures.world c.tell.ensures.input) (OfPrimitive row.Concat) c.args.words.now memory t t.texts host.input (g.W.World.state host.world)
    step.evaluated concat_evaluation
    (none_kept (OfPrimitive row.Concat) t.fault refl c.requires)
    (λ s. concat_comes s t.handles c.args.words.now memory) (λ s. step.evaluates (holding t.texts s))
    c.tell.result (host_form g.W.World.state c.tell.new.self) (c.concat-outcome.result, c.concat-outcome.new.handles, step.carried, c.tell.ensures.told, c.tell.ensures.kept)
