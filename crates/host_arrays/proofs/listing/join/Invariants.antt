use Rattle.std.proofs.Common.{◌≡◌, take}
use Rattle.host_arrays.specs.Keys.{joined}
use Rattle.host_arrays.proofs.listing.join.Given as goal

abbrev pub invariant-loop-slot : goal.invariant-loop-slot
invariant-loop-slot l = l.bytes.items ≡ joined (take l.slot-index l.order)
