use Rattle.host_values.proofs.Led.{unfit_led, world_means}
use Rattle.host_values.proofs.call_laws.world_calls.Goals as goal

pub returns-clause-called : goal.returns-clause-called
returns-clause-called g c = world_means g.W.World.is_modelled

pub returns-clause-unfit : goal.returns-clause-unfit
returns-clause-unfit g c = unfit_led g.W.World.is_modelled
