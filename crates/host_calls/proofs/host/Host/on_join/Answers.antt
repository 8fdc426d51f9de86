use Rattle.std.proofs.Common.{Ok, Err, refl, subst}
use Rattle.sem_primitives.specs.declared.table.Primitive.TheVariants as row
use Rattle.host_imports.specs.declared.import.Import.TheVariants.{OfPrimitive}
use Rattle.host_values.specs.Calls.{CarriesOut}
use Rattle.host_values.specs.Evaluations.{Values}
use Rattle.host_texts.specs.Evaluations.{join_evaluation}
use Rattle.host_texts.proofs.Rows.{join_comes}
use Rattle.host_calls.specs.Calls.{Gave}
use Rattle.host_calls.specs.Forms.{host_form}
use Rattle.host_calls.proofs.Comes.{none_kept, settled_means}
use Rattle.host_calls.proofs.Gaves.{gave_none}
use Rattle.host_calls.proofs.host.Host.on_join.Goals as goal

pub returns-in-Ok : goal.returns-in-Ok
returns-in-Ok g c memory =
    let host = c.args.self.now in
    let t = host.tables in
    let settled = c.settle.ensures.settled in
    settled_means g.W.World.is_modelled (Gave g.W.World.did c.args.self.now c.settle.new.self)
    (gave_none g.W.World.did c.args.self.now c.settle.new.self c.settle.ensures.world c.settle.ensures.input) (OfPrimitive row.Join) c.args.words.now memory t t.texts host.input (g.W.World.state host.world)
    (Ok c.in-Ok.evaluated) join_evaluation
    (none_kept (OfPrimitive row.Join) t.fault refl c.requires)
    (λ s. join_comes s t.handles c.args.words.now memory) c.in-Ok.ensures.came
    c.settle.result (host_form g.W.World.state c.settle.new.self)
    (settled.0, settled.1, subst (λ (m : Values). CarriesOut (Ok c.in-Ok.evaluated) m settled.0 settled.1) c.in-Ok.ensures.same settled.2, settled.3, settled.4)

pub returns-in-Err : goal.returns-in-Err
returns-in-Err g c memory =
    let host = c.args.self.now in
    let t = host.tables in
    settled_means g.W.World.is_modelled (Gave g.W.World.did c.args.self.now c.tell.new.self)
    (gave_none g.W.World.did c.args.self.now c.tell.new.self c.tell.ensures.world c.tell.ensures.input) (OfPrimitive row.Join) c.args.words.now memory t t.texts host.input (g.W.World.state host.world)
    (Err c.in-Err.refusal) join_evaluation
    (none_kept (OfPrimitive row.Join) t.fault refl c.requires)
    (λ s. join_comes s t.handles c.args.words.now memory) c.in-Err.ensures.came
    c.tell.result (host_form g.W.World.state c.tell.new.self) (Err c.in-Err.refusal, c.join_texts.new.handles, (refl, c.in-Err.ensures.same), c.tell.ensures.told, c.tell.ensures.kept)
