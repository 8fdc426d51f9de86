use Rattle.std.proofs.Common.{ℕ, Err, Ok, refl}
use Rattle.host_streams.proofs.Outputs.{opened_in, over_opened, put_opened, put_shut}
use Rattle.host_streams.proofs.Begun.{begins_opened, ends_new}
use Rattle.std.proofs.lemmas.Result.{err_from_is_err_and}
use Rattle.host_streams.proofs.GivenTexts.{new_failed, new_given, shut_given}
use Rattle.host_streams.proofs.output.put_new.Goals as goal

pub returns-in-Ok-clause-told : goal.returns-in-Ok-clause-told
returns-in-Ok-clause-told g c = λ tells shared e.
    let o = c.in_ok-id.ensures.told tells in
    put_opened c.args.name.now c.args.text.now c.args.append c.in_ok-id.id shared (Ok c.in-Ok.field-0) _ _ _ e o
    (c.in-Ok.ensures.told tells (opened_in c.args.name.now c.args.append shared) (over_opened c.args.name.now c.args.append c.in_ok-id.id shared _ _ e o))

pub returns-in-Err-clause-told : goal.returns-in-Err-clause-told
returns-in-Err-clause-told g c = λ tells shared e.
    let o = c.in_ok-id.ensures.told tells in
    put_shut _ c.in-Err.stop _ _ _ (c.close.ensures.told tells).outside
    (put_opened {A = Unit {0}} c.args.name.now c.args.text.now c.args.append c.in_ok-id.id shared (Err c.in-Err.stop) _ _ _ e o
    (c.in-Err.ensures.told tells (opened_in c.args.name.now c.args.append shared) (over_opened c.args.name.now c.args.append c.in_ok-id.id shared _ _ e o)))

pub returns-in-Err-clause-ends : goal.returns-in-Err-clause-ends
returns-in-Err-clause-ends g c = ends_new (Unit {0}) ℕ c.args.text.now c.in-Err.stop c.in-Err.ensures.ends

pub returns-in-Err-clause-begun : goal.returns-in-Err-clause-begun
returns-in-Err-clause-begun g c =
    begins_opened g.W.World.is_modelled c.args.name.now c.args.text.now c.args.append c.in_ok-id.id c.in-Err.stop _ _ _ _ c.in_ok-id.ensures.told (λ tells. (c.close.ensures.told tells).outside) c.in-Err.ensures.begun

pub returns-in_err-id-clause-given : goal.returns-in_err-id-clause-given
returns-in_err-id-clause-given g c =
    let p = err_from_is_err_and c.from_residual.result c.from_residual.ensures.1 in
    rw (p.1, p.2) (shut_given g.W.World.is_modelled g.W.World.did _ _ (g.W.World.kinds c.args.world.now) c.args.name.now c.args.append c.args.text.now _ _ c.in_err-id.field-0.0 c.in_err-id.ensures.did c.in_err-id.ensures.ends c.in_err-id.ensures.told)

pub returns-in-Ok-clause-given : goal.returns-in-Ok-clause-given
returns-in-Ok-clause-given g c =
    new_given g.W.World.is_modelled g.W.World.did _ _ (g.W.World.kinds c.args.world.now) c.args.name.now c.args.append c.in_ok-id.id c.args.text.now _ _
    c.in_ok-id.ensures.did c.in_ok-id.ensures.opened.was_closed c.in_ok-id.ensures.told _ _ _ c.in-Ok.ensures.given c.in-Ok.ensures.ends (λ tells. refl)

pub returns-in-Err-clause-given : goal.returns-in-Err-clause-given
returns-in-Err-clause-given g c =
    new_failed g.W.World.is_modelled g.W.World.did _ _ (g.W.World.kinds c.args.world.now) c.args.name.now c.args.append c.in_ok-id.id c.args.text.now _ _
    c.in_ok-id.ensures.did c.in_ok-id.ensures.opened.was_closed c.in_ok-id.ensures.told _ _ _ _ c.in-Err.stop c.in-Err.ensures.given c.in-Err.ensures.ends c.close.ensures.did (λ tells. (c.close.ensures.told tells).outside)
