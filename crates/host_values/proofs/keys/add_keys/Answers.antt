use Rattle.host_values.proofs.ReservedHandle.{reserved_put}
use Rattle.host_values.proofs.keys.add_keys.Goals as goal

pub returns-in-Ok-clause-reserved : goal.returns-in-Ok-clause-reserved
returns-in-Ok-clause-reserved c = reserved_put c.add.result _ _ _ c.add.ensures.below c.add.ensures.added c.add.ensures.refused c.requires
