use Rattle.std.proofs.Common.{◌≡◌, ◌++◌, length, drop, take}
use Rattle.std.specs.List.{filter_map}
use Rattle.host_arrays.specs.Keys.{joined}
use Rattle.host_arrays.proofs.listing.add_parts.Given as goal

abbrev pub invariant-loop-slot : goal.invariant-loop-slot
invariant-loop-slot l =
    (l.left ≡ length (joined (drop l.slot-index l.order))) × (l.keys.items ≡ l.fn.keys.items ++ filter_map (λ slot. slot) (take l.slot-index l.order))
