use Rattle.std.proofs.Common.{refl, subst, sym}
use Rattle.sem_primitives.specs.declared.table.Primitive.TheVariants as row
use Rattle.host_imports.specs.declared.import.Import.TheVariants.{OfPrimitive}
use Rattle.host_worlds.specs.Keeps.{with_end}
use Rattle.host_values.specs.Findings.{form_finding}
use Rattle.host_values.specs.Shown.{form_with_output}
use Rattle.host_streams.specs.Given.{Gives}
use Rattle.host_calls.specs.Calls.{ComesTo, Gave}
use Rattle.host_calls.specs.Forms.{form_in}
use Rattle.host_calls.proofs.Comes.{plain_comes}
use Rattle.host_calls.proofs.Gaves.{gave_none}
use Rattle.host_calls.proofs.host.Host.begin_end.Goals as goal

pub returns : goal.returns
returns g c memory =
    let host = c.args.self.now in
    let state = g.W.World.state host.world in
    let before = form_in host.tables host.input state in
    let after = form_in host.tables (with_end c.begin_end.new.input.in_end host.input) state in
    subst (λ i. ComesTo g.W.World.is_modelled (Gives g.W.World.did host.world host.world host.input.files.writers.items i.files.writers.items) (OfPrimitive row.BeginEnd) before c.args.words.now memory c.begin_end.result (form_in host.tables i state)) (sym c.begin_end.ensures.rest)
    (plain_comes g.W.World.is_modelled (Gave g.W.World.did host host) (gave_none g.W.World.did host host refl refl) (OfPrimitive row.BeginEnd) c.args.words.now memory before after c.begin_end.result c.requires refl
    (λ so_far. c.begin_end.ensures.step (form_with_output so_far before) memory c.requires)
    (λ finds outside so_far. c.begin_end.ensures.step (form_finding finds outside so_far before) memory c.requires))
