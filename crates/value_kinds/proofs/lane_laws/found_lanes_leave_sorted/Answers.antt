use Rattle.value_kinds.proofs.Sound.{found_sorted}
use Rattle.value_kinds.proofs.lane_laws.found_lanes_leave_sorted.Goals as goal

pub returns : goal.returns
returns c = found_sorted
