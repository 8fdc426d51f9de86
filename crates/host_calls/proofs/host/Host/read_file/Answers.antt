use Rattle.std.proofs.Common.{[], ap, refl}
use Rattle.host_imports.specs.declared.import.Import.TheVariants.{OfPrimitive}
use Rattle.host_worlds.specs.Calls.{with_values}
use Rattle.host_worlds.specs.Givens.{file_primitive}
use Rattle.host_worlds.specs.States.{over_world}
use Rattle.host_calls.specs.Forms.{host_form}
use Rattle.host_calls.proofs.Faulted.{read_told}
use Rattle.host_calls.proofs.Gaves.{gives_nothing}
use Rattle.host_calls.proofs.host.Host.read_file.Goals as goal

pub returns : goal.returns
returns g c = λ memory.
    let before = host_form g.W.World.state c.args.self.now in
    let later = with_values c.read_file.new.handles (over_world c.read_file.new.texts c.read_file.new.input (g.W.World.state c.read_file.new.world) before) in (
      [],
      gives_nothing g.W.World.did _ _ _ _ c.read_file.ensures.gives (ap (λ ws. ws.items) c.read_file.ensures.writers),
      read_told g.W.World.is_modelled (OfPrimitive (file_primitive c.args.to)) before later c.requires
          c.args.words.now memory refl refl refl c.read_file.ensures.outside
          c.read_file.result (c.read_file.ensures.called before memory c.requires),
    )
