use Rattle.host_values.proofs.ReservedHandle.{reserved_put}
use Rattle.host_values.proofs.value_calls.give_value.Goals as goal

pub returns-clause-reserved : goal.returns-clause-reserved
returns-clause-reserved c = reserved_put c.put.result _ _ _ c.put.ensures.below c.put.ensures.stored c.put.ensures.refused c.requires
