use Rattle.std.proofs.Common.{refl}
use Rattle.sem_primitives.specs.declared.table.Primitive.TheVariants as row
use Rattle.host_imports.specs.declared.import.Import.TheVariants.{OfPrimitive}
use Rattle.host_values.specs.Findings.{form_finding}
use Rattle.host_values.specs.Shown.{form_with_output}
use Rattle.host_worlds.specs.Forms.{flushing}
use Rattle.host_calls.specs.Calls.{Gave}
use Rattle.host_calls.specs.Forms.{form_in}
use Rattle.host_calls.proofs.Comes.{plain_comes}
use Rattle.host_calls.proofs.Gaves.{gave_none}
use Rattle.host_calls.proofs.host.Host.flush.Goals as goal

pub returns : goal.returns
returns g c memory =
    let host = c.args.self.now in
    let state = g.W.World.state host.world in
    let before = form_in host.tables host.input state in
    let after = flushing c.flush.new.handles host.input.files before in
    plain_comes g.W.World.is_modelled (Gave g.W.World.did host host) (gave_none g.W.World.did host host refl refl) (OfPrimitive row.Flush) c.args.words.now memory before after c.flush.result c.requires refl
    (λ so_far. c.flush.ensures.step (form_with_output so_far before) memory c.requires)
    (λ finds outside so_far. c.flush.ensures.step (form_finding finds outside so_far before) memory c.requires)
