use Rattle.std.proofs.Common.{◌==◌, ◌∙◌, ◌++◌, ap, sym}
use Rattle.std.specs.Cmp.Lexicographic.{pointwise}
use Rattle.std.proofs.lemmas.List.Sorted.{list_any-IsPermutation}
use Rattle.world_os.specs.Named.{is_one_borrowed}
use Rattle.world_os.proofs.fenced_names.in_order.Goals as goal

pub returns-clause-same : goal.returns-clause-same
returns-clause-same c = λ name.
    sym (list_any-IsPermutation (λ n. pointwise ◌==◌ n.now name) _ _ c.sort_unstable.ensures.permutation)
    ∙ ap (λ names. is_one_borrowed names name) (c.in_ok-extend_from_slice.ensures.items ∙ ap (λ names. names ++ c.args.names.now) c.new-sorted.ensures.items)
