use Rattle.std.proofs.Common.{w32, ap, sym, ◌∙◌}
use Rattle.std.proofs.lemmas.Int.{to_z-of_z}
use Rattle.std.specs.FinMap as map
use Rattle.host_arrays.specs.Pairs.{pairs_or_none}
use Rattle.host_arrays.proofs.table.Arrays.array.Goals as goal

pub returns : goal.returns
returns c =
    let number = to_z-of_z w32 _ c.ranges.number in
    sym (ap pairs_or_none (ap (λ m. map.get m c.args.number) (sym c.self.view_is) ∙ ap (map.get c.self.inside.numbered) (sym number) ∙ c.at.ensures))
