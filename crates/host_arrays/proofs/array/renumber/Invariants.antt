use Rattle.host_arrays.specs.Order.{Renumbers, held_in}
use Rattle.host_arrays.proofs.array.renumber.Given as goal

abbrev pub invariant-loop-place : goal.invariant-loop-place
invariant-loop-place l = Renumbers (held_in l.fn.pairs.entries) (held_in l.pairs.entries) l.fn.order l.place
