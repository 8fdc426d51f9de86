use Rattle.std.proofs.Common.{refl, subst, sym}
use Rattle.sem_primitives.specs.declared.table.Primitive.TheVariants as row
use Rattle.host_imports.specs.declared.import.Import.TheVariants.{OfPrimitive}
use Rattle.host_values.specs.Forms.{HostForm}
use Rattle.host_worlds.specs.Keeps.{with_line}
use Rattle.host_values.specs.Findings.{form_finding}
use Rattle.host_values.specs.Shown.{form_with_output}
use Rattle.host_streams.specs.Given.{Gives}
use Rattle.host_calls.specs.Calls.{ComesTo, Gave}
use Rattle.host_calls.specs.Forms.{form_in}
use Rattle.host_calls.proofs.Comes.{plain_comes}
use Rattle.host_calls.proofs.Gaves.{gave_none}
use Rattle.host_calls.proofs.host.Host.line.Goals as goal

pub returns : goal.returns
returns g c memory =
    let host = c.args.self.now in
    let state = g.W.World.state host.world in
    let before = form_in host.tables host.input state in
    let after : HostForm = record (form_in host.tables (with_line c.line.new.input.line host.input) state) { values = c.line.new.handles } in
    subst (λ i. let left : HostForm = record (form_in host.tables i state) { values = c.line.new.handles } in
    ComesTo g.W.World.is_modelled (Gives g.W.World.did host.world host.world host.input.files.writers.items i.files.writers.items) (OfPrimitive row.Line) before c.args.words.now memory c.line.result left) (sym c.line.ensures.rest)
    (plain_comes g.W.World.is_modelled (Gave g.W.World.did host host) (gave_none g.W.World.did host host refl refl) (OfPrimitive row.Line) c.args.words.now memory before after c.line.result c.requires refl
    (λ so_far. c.line.ensures.step (form_with_output so_far before) memory c.requires)
    (λ finds outside so_far. c.line.ensures.step (form_finding finds outside so_far before) memory c.requires))
