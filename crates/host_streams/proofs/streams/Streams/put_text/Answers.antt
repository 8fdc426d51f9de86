use Rattle.std.proofs.Common.{[], ap, false, true, refl}
use Rattle.sem_primitives.specs.OutputMeaning.{put_text, written}
use Rattle.sem_primitives.specs.declared.constants.Destination.TheVariants as destination
use Rattle.world_core.specs.WorldState.{Standard}
use Rattle.host_streams.specs.OpenFiles.{has_room}
use Rattle.host_streams.specs.Outputs.{IsOf}
use Rattle.host_streams.specs.Puts.{IsOver}
use Rattle.host_streams.proofs.Begun.{begins_as, ends_open}
use Rattle.host_streams.proofs.Held.{go_same}
use Rattle.host_streams.proofs.Outputs.{puts_file, puts_standard}
use Rattle.host_streams.proofs.GivenTexts.{open_given}
use Rattle.host_streams.proofs.streams.Streams.put_text.Goals as goal

pub returns-in-Standard-clause-goes : goal.returns-in-Standard-clause-goes
returns-in-Standard-clause-goes g c = λ tells. go_same c.args.self.now.writers.items _ _ (c.put_open.ensures.writers tells) (c.requires.goes tells)

pub returns-in-Standard-clause-told : goal.returns-in-Standard-clause-told
returns-in-Standard-clause-told g c = λ tells shared is.
    rw c.in-Standard.is (puts_standard c.args.text.now _ shared c.put_open.result _ _ _ (g.met.W.World.standard c.args.world.now) is.writers (c.put_open.ensures.told tells shared (record { kept = is.kept; outside = is.outside })))

pub returns-in-Emptied-clause-told : goal.returns-in-Emptied-clause-told
returns-in-Emptied-clause-told g c = λ tells shared is.
    rw c.in-Emptied.is (puts_file c.in-Emptied.name.now c.args.text.now false shared c.put_file.result _ _ c.args.self.now.writers.items c.put_file.new.self.writers.items is.writers c.put_file.ensures.opened c.put_file.ensures.refused (c.put_file.ensures.told tells shared is))

pub returns-in-Appended-clause-told : goal.returns-in-Appended-clause-told
returns-in-Appended-clause-told g c = λ tells shared is.
    rw c.in-Appended.is (puts_file c.in-Appended.name.now c.args.text.now true shared c.put_file-in-Appended.result _ _ c.args.self.now.writers.items c.put_file-in-Appended.new.self.writers.items is.writers c.put_file-in-Appended.ensures.opened c.put_file-in-Appended.ensures.refused (c.put_file-in-Appended.ensures.told tells shared is))

pub returns-in-Standard-clause-ends : goal.returns-in-Standard-clause-ends
returns-in-Standard-clause-ends g c = rw c.in-Standard.is (ends_open (has_room c.args.self.now) c.args.text.now c.put_open.result c.put_open.ensures.ends)

pub returns-in-Standard-clause-begun : goal.returns-in-Standard-clause-begun
returns-in-Standard-clause-begun g c =
    let state = g.W.World.state c.args.world.now in
    rw c.in-Standard.is (begins_as g.W.World.is_modelled (IsOver state) (IsOf c.args.self.now state) (written (state.writers 1) c.args.text.now) (put_text destination.Standard [] c.args.text.now) c.put_open.result _ _
    (λ tells shared is. (record { kept = is.kept; outside = is.outside }, ap (λ x. (written x c.args.text.now shared).added) (g.met.W.World.standard c.args.world.now))) c.put_open.ensures.begun)

pub returns-in-Emptied-clause-begun : goal.returns-in-Emptied-clause-begun
returns-in-Emptied-clause-begun g c = rw c.in-Emptied.is c.put_file.ensures.begun

pub returns-in-Appended-clause-begun : goal.returns-in-Appended-clause-begun
returns-in-Appended-clause-begun g c = rw c.in-Appended.is c.put_file-in-Appended.ensures.begun

pub returns-in-Standard-clause-given : goal.returns-in-Standard-clause-given
returns-in-Standard-clause-given g c =
    let state = g.W.World.state c.args.world.now in
    rw c.in-Standard.is (open_given g.W.World.is_modelled g.W.World.did _ _ c.args.self.now.writers.items 1 Standard c.args.text.now state _ c.put_open.result (IsOf c.args.self.now state) (put_text destination.Standard [] c.args.text.now)
    c.put_open.ensures.given c.put_open.ensures.ends (λ targets are. are.standard) (λ tells. g.met.W.World.standard c.args.world.now) (λ tells shared is. (record { kept = is.kept; outside = is.outside }, refl)))

pub returns-in-Emptied-clause-given : goal.returns-in-Emptied-clause-given
returns-in-Emptied-clause-given g c = rw c.in-Emptied.is c.put_file.ensures.given

pub returns-in-Appended-clause-given : goal.returns-in-Appended-clause-given
returns-in-Appended-clause-given g c = rw c.in-Appended.is c.put_file-in-Appended.ensures.given
