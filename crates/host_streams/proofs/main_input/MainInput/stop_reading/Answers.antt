use Rattle.std.proofs.Common.{subst, sym}
use Rattle.host_streams.specs.Given.{GivesNone}
use Rattle.host_streams.proofs.Given.{none_one, none_still}
use Rattle.host_streams.proofs.main_input.MainInput.stop_reading.Goals as goal
use Rattle.host_streams.proofs.main_input.MainInput.stop_reading.Goals.{in-File, in_default}

pub returns-clause-gives : goal.returns-clause-gives
returns-clause-gives g c =
    elim c.match-self.branch [
      | in-File w ↦ subst (λ v. GivesNone g.W.World.did c.args.world.now v) (sym w.world-is) (none_one g.W.World.did c.args.world.now _ w.close.ensures.did)
      | in_default w ↦ subst (λ v. GivesNone g.W.World.did c.args.world.now v) (sym w.world-is) (none_still g.W.World.did c.args.world.now)
    ]
