use Rattle.std.proofs.Common.{ap, sym, ◌∙◌}
use Rattle.host_arrays.specs.Pairs.{get_pair}
use Rattle.host_arrays.specs.Order.{held_in, kept_value}
use Rattle.host_arrays.proofs.PlaceLemmas.{get_pair-placed}
use Rattle.host_arrays.proofs.array.Array.get.Goals as goal

pub returns-in-Some : goal.returns-in-Some
returns-in-Some c =
    sym (ap (get_pair c.args.key.now) (sym c.self.view_is) ∙ get_pair-placed (held_in c.self.inside.pairs.entries) c.self.inside.order.items c.args.key.now c.self.invariant
    ∙ ap kept_value (sym c.in-Some.ensures.value))

pub returns-in-None : goal.returns-in-None
returns-in-None c =
    sym (ap (get_pair c.args.key.now) (sym c.self.view_is) ∙ get_pair-placed (held_in c.self.inside.pairs.entries) c.self.inside.order.items c.args.key.now c.self.invariant
    ∙ ap kept_value (sym c.in-None.ensures.value))
