use Rattle.std.proofs.Common.{w32, ap, ◌∙◌}
use Rattle.std.proofs.lemmas.Int.{to_z-of_z}
use Rattle.std.proofs.lemmas.Result.{on_err_weaker}
use Rattle.std.specs.FinMap as map
use Rattle.host_values.specs.Turns.{keys_at}
use Rattle.host_values.proofs.Places.{insert_keys}
use Rattle.host_values.proofs.iterators.Iterators.next.Goals as goal

pub returns-clause-refused : goal.returns-clause-refused
returns-clause-refused c =
    on_err_weaker c.next.result
    (λ same. rw (to_z-of_z w32 _ c.ranges.number) (ap (map.insert c.args.self.now c.args.number) (same ∙ c.visit.ensures.value ∙ ap (keys_at c.args.self.now) (to_z-of_z w32 _ c.ranges.number)) ∙ insert_keys c.args.self.now c.args.number c.requires))
    c.next.ensures.refused
