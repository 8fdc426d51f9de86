use Rattle.std.proofs.Common.{arith, ap, subst, ◌∙◌, ℕ, List, Option, length}
use Rattle.ere_match.specs.Rows.{cut, numbers}
use Rattle.ere_match.specs.Threads.{Holds, IsAccepted, IsClosure}
use Rattle.ere_match.proofs.Ranks.{cut_all}
use Rattle.ere_match.proofs.table.new_row.Goals as goal

pub close-requires-clause-starts : goal.close-requires-clause-starts
close-requires-clause-starts c =
    let whole = c.load.ensures ∙ ap (λ xs. cut c.args.count (numbers xs)) c.deref.ensures.value ∙ cut_all c.args.count (numbers c.args.ranks.items) (λ id s h. (let f = c.requires.few id s h in omega (arith, f))) in
    λ k s h. (let f = c.requires.few k s (subst (λ (xs : List (Option ℕ)). Holds xs k s) whole h) in omega (arith, f))

pub returns-clause-row : goal.returns-clause-row
returns-clause-row c =
    let whole = c.load.ensures ∙ ap (λ xs. cut c.args.count (numbers xs)) c.deref.ensures.value ∙ cut_all c.args.count (numbers c.args.ranks.items) (λ id s h. (let f = c.requires.few id s h in omega (arith, f))) in
    record {
      len = c.requires.len;
      few = c.requires.few;
      closed = c.requires.closed;
      inside = subst (λ (xs : List (Option ℕ)). IsAccepted c.args.nodes.now xs (length c.args.nodes.now) c.accepted-inside.result) whole c.accepted-inside.ensures;
      ending = c.close.new.set;
      is_ending = subst (λ (xs : List (Option ℕ)). IsClosure c.args.nodes.now c.args.first _ xs c.close.new.set) whole c.close.ensures;
      at_end = c.accepted-at_end.ensures;
    }
