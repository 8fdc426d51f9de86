use Rattle.host_values.proofs.ReservedHandle.{reserved_put}
use Rattle.host_values.proofs.arrays.add_array.Goals as goal

pub returns-in-Ok-clause-reserved : goal.returns-in-Ok-clause-reserved
returns-in-Ok-clause-reserved c = reserved_put c.new_array.result _ _ _ c.new_array.ensures.below c.new_array.ensures.added c.new_array.ensures.refused c.requires
