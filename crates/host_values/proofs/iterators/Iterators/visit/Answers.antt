use Rattle.std.proofs.Common.{w32, ap, refl, sym, ◌∙◌}
use Rattle.std.proofs.lemmas.Int.{to_z-of_z}
use Rattle.std.specs.FinMap as map
use Rattle.host_values.specs.Turns.{keys_or_none}
use Rattle.host_values.proofs.iterators.Iterators.visit.Goals as goal

pub returns : goal.returns
returns c =
    let numbered = c.self.inside.numbered in
    let number = to_z-of_z w32 _ c.ranges.number in (
      (refl, λ keys. ap (λ k. map.insert numbered k keys) number ∙ ap (λ m. map.insert m c.args.number keys) c.self.view_is),
      record { writes_back = tt; value = sym (ap keys_or_none (ap (λ m. map.get m c.args.number) (sym c.self.view_is) ∙ ap (map.get numbered) (sym number) ∙ c.at_mut.ensures.value)) },
    )
