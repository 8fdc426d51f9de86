use Rattle.host_imports.specs.declared.import.Import.TheVariants.{Variadic}
use Rattle.host_imports.specs.declared.import.VariadicImport.TheVariants.{Print}
use Rattle.host_calls.specs.Calls.{Gave}
use Rattle.host_calls.specs.Forms.{host_form}
use Rattle.host_calls.proofs.Comes.{told_comes}
use Rattle.host_calls.proofs.Gaves.{gave_told}
use Rattle.host_calls.proofs.host.Host.on_print.Goals as goal

pub returns : goal.returns
returns g c memory =
    let state = g.W.World.state in
    told_comes g.W.World.is_modelled (Gave g.W.World.did c.args.self.now c.tell.new.self) (Variadic Print) (host_form state c.args.self.now) (host_form state c.print-outcome.new.self) (host_form state c.tell.new.self) c.args.words.now memory
    c.print-outcome.result c.tell.result c.tell.ensures.told c.tell.ensures.kept
    (gave_told g.W.World.did c.args.self.now c.print-outcome.new.self c.tell.new.self c.tell.ensures.world c.tell.ensures.input (c.print-outcome.ensures memory))
