use Rattle.std.proofs.Common.{◌∙◌, List, ℕ, Bor, Ordering, rules}
use Rattle.std.specs.Ordering.{nat_cmp}
use Rattle.std.specs.Cmp.Lexicographic.{slice_cmp}
use Rattle.std.proofs.lemmas.Fn.{always_returns_same}
use Rattle.world_os.proofs.NameLemmas.{found}
use Rattle.world_os.proofs.fenced_names.is_in.Goals as goal

-- the closure compares one of the names with the name
pub returns : goal.returns
returns c =
    let order : Bor (List ℕ) → Ordering = λ n. slice_cmp nat_cmp n.now c.args.name.now in
    let by_order = c.binary_search_by.ensures.position order (always_returns_same _ _ _ (λ a r f called. search rules)) in
    c.is_ok.ensures.value ∙ found c.args.sorted.now c.args.name.now c.binary_search_by.result c.requires c.binary_search_by.ensures.bound by_order
