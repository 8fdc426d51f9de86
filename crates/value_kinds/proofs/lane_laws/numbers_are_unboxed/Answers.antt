use Rattle.value_kinds.proofs.Finds.{finds}
use Rattle.value_kinds.proofs.lane_laws.numbers_are_unboxed.Goals as goal

pub returns : goal.returns
returns c = finds
