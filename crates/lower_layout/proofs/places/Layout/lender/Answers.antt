use Rattle.std.proofs.Common.{ℕ, List, Option, None, get_or, sym, ap, ◌∙◌}
use Rattle.std.proofs.lemmas.List.{get_or_past}
use Rattle.lower_layout.proofs.LenderLemmas.{lender_found}
use Rattle.lower_layout.proofs.places.Layout.lender.Goals as goal

pub returns-in-Some : goal.returns-in-Some
returns-in-Some c =
    let lenders = c.args.self.now.program.now.lenders.items in
    c.in-Some.ensures.lookup.3.1 None ∙ ap (λ (ls : List (Option ℕ)). get_or ls c.args.place None) c.deref.ensures.value ∙ lender_found lenders c.args.place

pub returns-in-None : goal.returns-in-None
returns-in-None c =
    let lenders = c.args.self.now.program.now.lenders.items in
    sym (get_or_past c.deref.result.now c.args.place None c.in-None.ensures.lookup.3)
    ∙ ap (λ (ls : List (Option ℕ)). get_or ls c.args.place None) c.deref.ensures.value ∙ lender_found lenders c.args.place
