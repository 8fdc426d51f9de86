use Rattle.std.proofs.Common.{◌∙◌, arith}
use Rattle.value_kinds.proofs.Views.{unboxed_at}
use Rattle.value_kinds.proofs.names.is_unboxed.Goals as goal

pub returns : goal.returns
returns c = c.is_lane.ensures ∙ unboxed_at c.args.kinds.now c.args.place _ (omega arith)
