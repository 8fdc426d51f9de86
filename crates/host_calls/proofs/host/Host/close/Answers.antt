use Rattle.std.proofs.Common.{[]}
use Rattle.sem_primitives.specs.declared.table.Primitive.TheVariants as row
use Rattle.host_imports.specs.declared.import.Import.TheVariants.{OfPrimitive}
use Rattle.host_worlds.proofs.Apart.{holds_file}
use Rattle.host_worlds.specs.Forms.{closing}
use Rattle.host_calls.specs.Forms.{host_form}
use Rattle.host_calls.proofs.Gaves.{gives_left}
use Rattle.host_calls.proofs.Written.{files_come}
use Rattle.host_calls.proofs.host.Host.close.Goals as goal

pub invariant_of-self : goal.invariant_of-self
invariant_of-self g c =
    let was = c.args.self.now in
    let held = holds_file was.input c.close.new.streams (g.W.World.kinds was.world) (g.W.World.kinds c.close.new.world)
    was.held c.close.ensures.held c.close.ensures.others in
    ((c.close.ensures.reserved was.tables.free_handle, (was.tables.free_array, (was.tables.free_iterator, tt))), (held, (c.close.ensures.goes, tt)))

pub returns : goal.returns
returns g c = λ memory.
    let was = c.args.self.now in
    let old = g.W.World.state was.world in
    let new = g.W.World.state c.close.new.world in
    let before = host_form g.W.World.state was in
    files_come g.W.World.is_modelled _ (OfPrimitive row.Close) c.args.words.now memory
    was.input (g.W.World.kinds was.world) was.held (g.met.W.World.input was.world) old new
    c.close.ensures.places before
    (closing c.close.new.handles c.close.new.streams new before) c.close.result c.requires
    ([], gives_left g.W.World.did _ _ _ _ c.close.ensures.gives c.close.ensures.left, c.close.ensures.step before memory c.requires)
