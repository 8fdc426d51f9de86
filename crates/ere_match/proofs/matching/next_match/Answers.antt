use Rattle.std.proofs.Common.{subst, sym, List, ◌+◌, length}
use Rattle.std.proofs.lemmas.Result.{IfOk-weaker}
use Rattle.ere_match.specs.Ends.{AreDead}
use Rattle.ere_match.specs.Threads.{IsBest, SpecNode}
use Rattle.ere_match.proofs.Firsts.{auto_first}
use Rattle.ere_match.proofs.Tested.{best_out}
use Rattle.ere_match.proofs.matching.next_match.Goals as goal

pub returns-clause-found : goal.returns-clause-found
returns-clause-found c = λ t a.
    IfOk-weaker c.search.result _ _ (λ found best.
    auto_first c.args.auto.now c.args.text.now t c.args.from found a
    (best_out c.args.auto.now.nodes.items c.args.text.now c.args.auto.now.entry c.args.from (length c.args.text.now + 1) found
    (subst (λ (x : List SpecNode). ∥ IsBest x c.args.text.now c.args.auto.now.entry c.args.from (length c.args.text.now + 1) found ∥₁) c.deref.ensures.value best))) c.search.ensures.best

pub search-requires-clause-ends : goal.search-requires-clause-ends
search-requires-clause-ends c = subst (λ (x : List SpecNode). AreDead x c.args.text.now c.args.ends.now) (sym c.deref.ensures.value) c.requires.ends

pub returns-clause-ends : goal.returns-clause-ends
returns-clause-ends c =
    IfOk-weaker c.search.result _ _ (λ found dead. subst (λ (x : List SpecNode). AreDead x c.args.text.now c.search.new.ends) c.deref.ensures.value dead) c.search.ensures.ends
