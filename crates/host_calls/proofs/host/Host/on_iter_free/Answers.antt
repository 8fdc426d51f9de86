use Rattle.host_imports.specs.declared.import.Import.TheVariants.{IterFree}
use Rattle.host_calls.specs.Calls.{Gave}
use Rattle.host_calls.specs.Forms.{form_in, host_form}
use Rattle.host_calls.proofs.Comes.{table_told}
use Rattle.host_calls.proofs.Gaves.{gave_none}
use Rattle.host_calls.proofs.host.Host.on_iter_free.Goals as goal

pub returns : goal.returns
returns g c memory =
    let host = c.args.self.now in
    let state = g.W.World.state host.world in
    table_told g.W.World.is_modelled (Gave g.W.World.did c.args.self.now c.tell.new.self)
    (gave_none g.W.World.did c.args.self.now c.tell.new.self c.tell.ensures.world c.tell.ensures.input) IterFree c.args.words.now memory host.tables c.iter_free-outcome.new.self host.input state
    c.iter_free-outcome.result c.tell.result (host_form g.W.World.state c.tell.new.self) c.tell.ensures.told c.tell.ensures.kept
    (c.iter_free-outcome.ensures (form_in host.tables host.input state) memory)
