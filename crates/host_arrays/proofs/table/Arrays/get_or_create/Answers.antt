use Rattle.std.proofs.Common.{w32, ap, ◌∙◌}
use Rattle.std.proofs.lemmas.Int.{to_z-of_z}
use Rattle.std.proofs.lemmas.Result.{on_err_weaker}
use Rattle.std.specs.FinMap as map
use Rattle.host_arrays.specs.Pairs.{pairs_at}
use Rattle.host_arrays.proofs.NumberLemmas.{insert-same}
use Rattle.host_arrays.proofs.table.Arrays.get_or_create.Goals as goal

pub returns-clause-refused : goal.returns-clause-refused
returns-clause-refused c =
    on_err_weaker c.get_or_create.result
    (λ same. rw (to_z-of_z w32 _ c.ranges.number) (ap (map.insert c.args.self.now c.args.number) (same ∙ c.array_mut.ensures.value ∙ ap (pairs_at c.args.self.now) (to_z-of_z w32 _ c.ranges.number)) ∙ insert-same c.args.self.now c.args.number c.requires))
    c.get_or_create.ensures.refused
