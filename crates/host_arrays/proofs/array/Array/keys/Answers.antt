use Rattle.std.proofs.Common.{ap, sym, ◌∙◌}
use Rattle.std.proofs.lemmas.Result.{IfOk-weaker}
use Rattle.std.specs.List.{filter_map}
use Rattle.std.specs.Map.{keys_of}
use Rattle.host_arrays.specs.Order.{held_in}
use Rattle.host_arrays.proofs.PairLemmas.{keys-pairs_in}
use Rattle.host_arrays.proofs.array.Array.keys.Goals as goal

pub returns : goal.returns
returns c =
    IfOk-weaker c.texts_of.result _ _
    (λ keys listed. listed ∙ ap (filter_map (λ slot. slot)) c.as_slice.ensures.value ∙ sym (keys-pairs_in (held_in c.self.inside.pairs.entries) c.self.inside.order.items) ∙ ap keys_of c.self.view_is)
    c.texts_of.ensures
