use Rattle.std.proofs.Common.{◌∙◌, Ok, Err, ap}
use Rattle.world_core.specs.declared.world.WorldFault.TheVariants.{Failed, NoMemory}
use Rattle.world_core.specs.WorldState.{after}
use Rattle.host_streams.specs.Given.{WritesSize}
use Rattle.host_streams.specs.Puts.{TextPrefix, PutsSome}
use Rattle.sem_primitives.specs.Finds.{seen}
use Rattle.host_streams.proofs.Writing.{part_put, seen_over}
use Rattle.host_streams.proofs.Given.{puts_open}
use Rattle.host_streams.proofs.put.put_open.Goals as goal

pub returns-in-Err-NoMemory-clause-told : goal.returns-in-Err-NoMemory-clause-told
returns-in-Err-NoMemory-clause-told g c = λ tells shared e.
    let p : PutsSome c.args.id c.args.text.now (g.W.World.state c.args.world.now) (g.W.World.state c.write_all.new.world) = rw c.in-Err-NoMemory.field-0-is at (c.in-Err-NoMemory.ensures.told tells) in
    (p.size, p.does.outside ∙ ap (λ acts. after acts (g.W.World.state c.args.world.now).outside) (part_put ((g.W.World.state c.args.world.now).writers c.args.id) p.size c.args.text.now (seen shared.inner shared.outside) (g.W.World.state c.args.world.now).outside (seen_over (g.W.World.state c.args.world.now) shared e)))

pub returns-in-Err-NoMemory-clause-begun : goal.returns-in-Err-NoMemory-clause-begun
returns-in-Err-NoMemory-clause-begun g c =
    let p : TextPrefix g.W.World.is_modelled c.args.id c.args.text.now (g.W.World.state c.args.world.now) (Err NoMemory) (g.W.World.state c.write_all.new.world) = rw c.in-Err-NoMemory.field-0-is at c.in-Err-NoMemory.ensures.begun in
    (p.0, λ tells shared e. (p.1 tells).outside ∙ ap (λ acts. after acts (g.W.World.state c.args.world.now).outside) (part_put ((g.W.World.state c.args.world.now).writers c.args.id) p.0 c.args.text.now (seen shared.inner shared.outside) (g.W.World.state c.args.world.now).outside (seen_over (g.W.World.state c.args.world.now) shared e)))

pub returns-in-Ok-clause-given : goal.returns-in-Ok-clause-given
returns-in-Ok-clause-given g c =
    let p : WritesSize g.W.World.is_modelled g.W.World.did c.args.world.now c.write_all.new.world c.args.id c.args.text.now (g.W.World.state c.args.world.now) (g.W.World.state c.write_all.new.world) (Ok tt) = c.in-Ok.ensures.given in
    puts_open _ _ _ _ _ _ _ _ (Ok tt) p

pub returns-in-Err-Failed-clause-given : goal.returns-in-Err-Failed-clause-given
returns-in-Err-Failed-clause-given g c =
    let p : WritesSize g.W.World.is_modelled g.W.World.did c.args.world.now c.write_all.new.world c.args.id c.args.text.now (g.W.World.state c.args.world.now) (g.W.World.state c.write_all.new.world) (Err Failed) = rw c.in-Err-Failed.field-0-is at c.in-Err-Failed.ensures.given in
    puts_open _ _ _ _ _ _ _ _ (Err Failed) p

pub returns-in-Err-NoMemory-clause-given : goal.returns-in-Err-NoMemory-clause-given
returns-in-Err-NoMemory-clause-given g c =
    let p : WritesSize g.W.World.is_modelled g.W.World.did c.args.world.now c.write_all.new.world c.args.id c.args.text.now (g.W.World.state c.args.world.now) (g.W.World.state c.write_all.new.world) (Err NoMemory) = rw c.in-Err-NoMemory.field-0-is at c.in-Err-NoMemory.ensures.given in
    puts_open _ _ _ _ _ _ _ _ (Err NoMemory) p
