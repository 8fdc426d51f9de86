use Rattle.std.proofs.Common.{Ok, refl}
use Rattle.sem_primitives.specs.declared.table.Primitive.TheVariants as row
use Rattle.host_imports.specs.declared.import.Import.TheVariants.{OfPrimitive}
use Rattle.host_values.specs.ValueEvaluations.{to_num_evaluation}
use Rattle.host_values.proofs.ValueRows.{to_num_comes}
use Rattle.host_texts.specs.States.{holding}
use Rattle.host_calls.specs.Calls.{Gave}
use Rattle.host_calls.specs.Forms.{host_form}
use Rattle.host_calls.proofs.Comes.{none_kept, settled_means}
use Rattle.host_calls.proofs.Gaves.{gave_none}
use Rattle.host_calls.proofs.host.Host.on_to_num.Goals as goal

pub returns-in-Some : goal.returns-in-Some
returns-in-Some g c memory =
    let host = c.args.self.now in
    let t = host.tables in
    settled_means g.W.World.is_modelled (Gave g.W.World.did c.args.self.now c.settle.new.self)
    (gave_none g.W.World.did c.args.self.now c.settle.new.self c.settle.ensures.world c.settle.ensures.input) (OfPrimitive row.ToNum) c.args.words.now memory t t.texts host.input (g.W.World.state host.world)
    (Ok c.in-Some.evaluated) to_num_evaluation
    (none_kept (OfPrimitive row.ToNum) t.fault refl c.requires)
    (λ s. to_num_comes s t.handles c.args.words.now memory) (λ s. c.in-Some.ensures (holding t.texts s))
    c.settle.result (host_form g.W.World.state c.settle.new.self) c.settle.ensures.settled
