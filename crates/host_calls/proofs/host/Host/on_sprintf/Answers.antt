use Rattle.std.proofs.Common.{refl}
use Rattle.host_imports.specs.declared.import.Import.TheVariants.{Variadic}
use Rattle.host_imports.specs.declared.import.VariadicImport.TheVariants as listing
use Rattle.host_calls.specs.Calls.{Gave}
use Rattle.host_calls.specs.Forms.{host_form}
use Rattle.host_calls.proofs.Comes.{none_kept, plain_told}
use Rattle.host_calls.proofs.Gaves.{gave_none}
use Rattle.host_calls.proofs.host.Host.on_sprintf.Goals as goal

pub sprintf-outcome-requires : goal.sprintf-outcome-requires
sprintf-outcome-requires g c = none_kept (Variadic listing.Sprintf) c.args.self.now.tables.fault refl c.requires

pub returns : goal.returns
returns g c memory =
    let host = c.args.self.now in
    plain_told g.W.World.is_modelled (Gave g.W.World.did c.args.self.now c.tell.new.self)
    (gave_none g.W.World.did c.args.self.now c.tell.new.self c.tell.ensures.world c.tell.ensures.input) (Variadic listing.Sprintf) c.args.words.now memory host.tables c.sprintf-outcome.new.self host.input (g.W.World.state host.world)
    c.sprintf-outcome.result c.tell.result (host_form g.W.World.state c.tell.new.self) c.tell.ensures.told c.tell.ensures.kept
    (none_kept (Variadic listing.Sprintf) host.tables.fault refl c.requires) (λ f. c.sprintf-outcome.ensures f memory)
