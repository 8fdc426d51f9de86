use Rattle.std.proofs.Common.{◌≡◌, ◌++◌, drop}
use Rattle.value_kinds.specs.Lanes.{none_wished}
use Rattle.value_kinds.proofs.lenders.none_wished.Given as goal

abbrev pub invariant-loop : goal.invariant-loop
invariant-loop l = l.wishes.items ++ none_wished (drop l.index l.lenders) ≡ none_wished l.lenders
