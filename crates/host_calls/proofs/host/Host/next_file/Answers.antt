use Rattle.std.proofs.Common.{[], ap}
use Rattle.sem_primitives.specs.declared.table.Primitive.TheVariants as row
use Rattle.host_imports.specs.declared.import.Import.TheVariants.{OfPrimitive}
use Rattle.host_worlds.specs.States.{over_world}
use Rattle.host_worlds.specs.declared.input.Input.{Input}
use Rattle.host_calls.specs.Forms.{host_form}
use Rattle.host_calls.proofs.Comes.{world_comes}
use Rattle.host_calls.proofs.Gaves.{gives_nothing}
use Rattle.host_calls.proofs.host.Host.next_file.Goals as goal

pub returns : goal.returns
returns g c = λ memory.
    let host = c.args.self.now in
    let before = host_form g.W.World.state host in
    let after = over_world host.tables.texts c.next_file.new.input (g.W.World.state c.next_file.new.world) before in
    world_comes g.W.World.is_modelled _ (OfPrimitive row.NextFile) c.args.words.now memory before after c.next_file.result c.requires []
    (gives_nothing g.W.World.did _ _ _ _ c.next_file.ensures.gives (ap (λ (i : Input). i.files.writers.items) c.next_file.ensures.rest))
    (c.next_file.ensures.called before memory host.tables.texts c.requires)
