use Rattle.value_kinds.proofs.Applies.{applies}
use Rattle.value_kinds.proofs.lane_laws.lanes_keep_the_meaning.Goals as goal

pub returns : goal.returns
returns c = applies
