use Rattle.std.proofs.Common.{ap, ◌∙◌}
use Rattle.std.specs.FinMap as map
use Rattle.host_values.specs.Calls.{reserved_handle}
use Rattle.host_values.proofs.ReservedHandle.{reserved_left}
use Rattle.host_values.proofs.value_calls.carry_out.Goals as goal

pub give-requires : goal.give-requires
give-requires c = ap (λ m. map.get m reserved_handle) c.leave.ensures ∙ reserved_left c.args.evaluated.spent c.args.handles.now c.requires

pub returns-in-Err-clause-reserved : goal.returns-in-Err-clause-reserved
returns-in-Err-clause-reserved c = ap (λ m. map.get m reserved_handle) c.leave.ensures ∙ reserved_left c.args.evaluated.spent c.args.handles.now c.requires
