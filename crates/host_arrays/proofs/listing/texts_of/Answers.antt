use Rattle.std.proofs.Common.{◌++◌, take, arith, ap, ◌∙◌}
use Rattle.std.proofs.lemmas.Grind.{common_steps}
use Rattle.std.proofs.lemmas.List.{take_rest}
use Rattle.std.specs.List.{filter_map}
use Rattle.host_arrays.proofs.ListingLemmas.{listed_on}
use Rattle.host_arrays.proofs.listing.texts_of.Goals as goal

pub loop-from-preserved : goal.loop-from-preserved
loop-from-preserved c =
    let order = c.args.order.now in
    let from = c.loop-from.from in
    let many = c.in_ok-from.field-0 in
    let keys = c.loop-from.keys.items in (
      grind (arith, common_steps, c.in_ok-from.ensures.within, c.loop-from.invariant.0, c.loop-from-test.true),
      listed_on order from many keys c.add_front.new.keys.items c.loop-from.invariant.1
          (c.in_ok-from.ensures.added ∙ ap (λ rest. keys ++ filter_map (λ slot. slot) (take many rest)) (take_rest order from)),
    )
