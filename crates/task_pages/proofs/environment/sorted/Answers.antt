use Rattle.std.proofs.Common.{◌≡◌, ap, rules}
use Rattle.std.specs.Ordering.{is_lt, nat_cmp}
use Rattle.std.specs.Cmp.Lexicographic.{slice_cmp}
use Rattle.std.proofs.lemmas.Cmp.{nat_list_cmp_total}
use Rattle.std.proofs.lemmas.List.MinMax.{ranks_by}
use Rattle.std.proofs.lemmas.List.Sorted.{answers_always}
use Rattle.host_texts.specs.NameForms.{pair_of}
use Rattle.host_texts.specs.declared.names.NamedText.{NamedText}
use Rattle.task_pages.proofs.environment.sorted.Goals as goal

pub returns-clause-order : goal.returns-clause-order
returns-clause-order c =
    let ranks = ranks_by nat_list_cmp_total (λ (t : NamedText). (pair_of t).0) in
    c.in_ok-sort_by.ensures.sorted _ ranks (answers_always _ _ _ (λ f a r f' called.
    let same : r ≡ slice_cmp nat_cmp (pair_of a.0.now).0 (pair_of a.1.0.now).0 = search rules in
    ap is_lt same))
