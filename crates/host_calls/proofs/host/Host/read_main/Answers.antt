use Rattle.std.proofs.Common.{[], ap, refl}
use Rattle.host_imports.specs.declared.import.Import.TheVariants.{OfPrimitive}
use Rattle.host_worlds.specs.Givens.{main_primitive}
use Rattle.host_worlds.specs.States.{over_world}
use Rattle.host_worlds.specs.declared.input.Input.{Input}
use Rattle.host_calls.specs.Forms.{host_form}
use Rattle.host_calls.proofs.Faulted.{read_told}
use Rattle.host_calls.proofs.Gaves.{gives_nothing}
use Rattle.host_calls.proofs.host.Host.read_main.Goals as goal

pub returns : goal.returns
returns g c = λ memory.
    let before = host_form g.W.World.state c.args.self.now in
    let later = over_world c.read_main.new.texts c.read_main.new.input (g.W.World.state c.read_main.new.world) before in (
      [],
      gives_nothing g.W.World.did _ _ _ _ c.read_main.ensures.gives (ap (λ (i : Input). i.files.writers.items) c.read_main.ensures.rest),
      read_told g.W.World.is_modelled (OfPrimitive (main_primitive c.args.how)) before later c.requires
          c.args.words.now memory refl refl refl c.read_main.ensures.outside
          c.read_main.result (c.read_main.ensures.called before memory c.requires refl),
    )
