use Rattle.std.proofs.Common.{false, true, subst, ◌∙◌}
use Rattle.sem_primitives.specs.OutputMeaning.{put_text}
use Rattle.sem_primitives.specs.declared.constants.Destination.TheVariants as destination
use Rattle.host_streams.proofs.Refused.{is_stop}
use Rattle.host_worlds.specs.OutputCalls.{OutputGiven}
use Rattle.host_worlds.proofs.Found.{file_given, none_out, standard_given}
use Rattle.host_worlds.proofs.outlets.put_out.Goals as goal

pub returns-in-Standard-clause-given : goal.returns-in-Standard-clause-given
returns-in-Standard-clause-given g c =
    let put = c.put_text in
    rw c.in-Standard.is (standard_given g.W.World.is_modelled g.W.World.did _ _ c.args.text.now c.args.streams.now put.new.self _ _ put.result put.ensures.ends put.ensures.opened put.ensures.refused put.ensures.given)

pub returns-in_ok-name-in-Emptied-clause-given : goal.returns-in_ok-name-in-Emptied-clause-given
returns-in_ok-name-in-Emptied-clause-given g c =
    let put = c.put_text-in-Emptied in
    rw c.in-Emptied.is (subst (λ name. OutputGiven g.W.World.is_modelled g.W.World.did c.args.world.now put.new.world c.args.streams.now put.new.self (g.W.World.state c.args.world.now) (g.W.World.state put.new.world) put.result (put_text destination.Emptied name c.args.text.now)) (c.as_slice.ensures.value ∙ c.in_ok-name-in-Emptied.ensures)
    (file_given c.as_slice.result.now c.args.text.now false c.args.streams.now put.new.self put.result put.ensures.opened put.ensures.refused g.W.World.is_modelled g.W.World.did _ _ _ _ put.ensures.ends put.ensures.given))

pub returns-in_ok-name-in-Appended-clause-given : goal.returns-in_ok-name-in-Appended-clause-given
returns-in_ok-name-in-Appended-clause-given g c =
    let put = c.put_text-in-Appended in
    rw c.in-Appended.is (subst (λ name. OutputGiven g.W.World.is_modelled g.W.World.did c.args.world.now put.new.world c.args.streams.now put.new.self (g.W.World.state c.args.world.now) (g.W.World.state put.new.world) put.result (put_text destination.Appended name c.args.text.now)) (c.as_slice-in-Appended.ensures.value ∙ c.in_ok-name-in-Appended.ensures)
    (file_given c.as_slice-in-Appended.result.now c.args.text.now true c.args.streams.now put.new.self put.result put.ensures.opened put.ensures.refused g.W.World.is_modelled g.W.World.did _ _ _ _ put.ensures.ends put.ensures.given))

pub returns-in_err-name-in-Emptied-clause-given : goal.returns-in_err-name-in-Emptied-clause-given
returns-in_err-name-in-Emptied-clause-given g c =
    rw (is_stop c.from_residual.result c.from_residual.ensures.1) (none_out g.W.World.is_modelled g.W.World.did c.args.world.now c.args.streams.now (g.W.World.state c.args.world.now) _)

pub returns-in_err-name-in-Appended-clause-given : goal.returns-in_err-name-in-Appended-clause-given
returns-in_err-name-in-Appended-clause-given g c =
    rw (is_stop c.from_residual-in_err-name-in-Appended.result c.from_residual-in_err-name-in-Appended.ensures.1) (none_out g.W.World.is_modelled g.W.World.did c.args.world.now c.args.streams.now (g.W.World.state c.args.world.now) _)
