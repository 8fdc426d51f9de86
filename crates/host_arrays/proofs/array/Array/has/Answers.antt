use Rattle.std.proofs.Common.{is_some, ap, sym, ◌∙◌}
use Rattle.host_arrays.specs.Pairs.{get_pair}
use Rattle.host_arrays.specs.Order.{held_in}
use Rattle.host_arrays.proofs.PlaceLemmas.{get_pair-placed, is_some-kept}
use Rattle.host_arrays.proofs.array.Array.has.Goals as goal

pub returns : goal.returns
returns c =
    c.contains_key.ensures
    ∙ sym (ap (λ pairs. is_some (get_pair c.args.key.now pairs)) (sym c.self.view_is) ∙ ap is_some (get_pair-placed (held_in c.self.inside.pairs.entries) c.self.inside.order.items c.args.key.now c.self.invariant)
    ∙ is_some-kept (held_in c.self.inside.pairs.entries c.args.key.now))
