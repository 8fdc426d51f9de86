use Rattle.std.proofs.Common.{arith, refl, ap, sym, ◌∙◌, ◌≡◌, None, length, false}
use Rattle.std.proofs.Props.{props}
use Rattle.std.proofs.Math.Logic.{∥∥₁_elim, ∥∥₁_map}
use Rattle.std.proofs.lemmas.Option.{get_or_from_slice_get, slice_get_within}
use Rattle.ere_match.specs.Threads.{better_of}
use Rattle.ere_match.specs.Rows.{SpecRow, started}
use Rattle.ere_match.proofs.Ends.{dead_tails}
use Rattle.ere_match.proofs.Places.{end_at, ending, ending_room}
use Rattle.ere_match.proofs.search.seek.Goals as goal

pub index-row-requires : goal.index-row-requires
index-row-requires c = ∥∥₁_elim c.loop-at.invariant.search (search props) (λ s. (let w = slice_get_within c.loop-at.table.rows.items c.loop-at.state s.row s.is in omega (arith, w)))

pub go_behind-requires-clause-accepts : goal.go_behind-requires-clause-accepts
go_behind-requires-clause-accepts c = λ row is. ap (λ (r : SpecRow). r.inside) (sym (c.index-row.ensures ∙ get_or_from_slice_get c.loop-at.table.rows.items c.loop-at.state row c.index-row.result.now is)) ∙ c.in-Some.is

pub stride-requires-clause-state : goal.stride-requires-clause-state
stride-requires-clause-state c = ∥∥₁_elim c.loop-at.invariant.search (search props) (λ s. slice_get_within c.loop-at.table.rows.items c.loop-at.state s.row s.is)

pub stride-requires-clause-none : goal.stride-requires-clause-none
stride-requires-clause-none c = λ row is. ap (λ (r : SpecRow). r.inside) (sym (c.index-row.ensures ∙ get_or_from_slice_get c.loop-at.table.rows.items c.loop-at.state row c.index-row.result.now is)) ∙ c.in-None.is

pub go_on-requires-clause-search : goal.go_on-requires-clause-search
go_on-requires-clause-search c = c.in_ok-step.ensures.search c.args.from c.loop-at.invariant.above c.loop-at.invariant.search

pub hasten-requires-clause-state : goal.hasten-requires-clause-state
hasten-requires-clause-state c = ∥∥₁_elim (c.in_ok-step.ensures.search c.args.from c.loop-at.invariant.above c.loop-at.invariant.search) (search props) (λ s. slice_get_within c.stride.new.table.rows.items c.in_ok-step.step.1 s.row s.is)

pub loop-at-preserved-then-at-text : goal.loop-at-preserved-then-at-text
loop-at-preserved-then-at-text c = record {
  above = omega (arith, c.loop-at.invariant.above, c.in_ok-step.ensures.after, c.in_ok-next.ensures.after);
  inside = c.in_ok-next.ensures.inside;
  table = c.hasten.ensures.table;
  search = c.in_ok-next.ensures.search c.args.from (omega (arith, c.loop-at.invariant.above, c.in_ok-step.ensures.after)) (c.in_ok-step.ensures.search c.args.from c.loop-at.invariant.above c.loop-at.invariant.search);
  ends = c.loop-at.invariant.ends;
}

pub loop-at-preserved : goal.loop-at-preserved
loop-at-preserved c = record {
  above = omega (arith, c.loop-at.invariant.above, c.in_ok-step.ensures.after);
  inside = c.in_ok-step.ensures.inside;
  table = c.stride.ensures.table;
  search = c.in_ok-step.ensures.search c.args.from c.loop-at.invariant.above c.loop-at.invariant.search;
  ends = c.loop-at.invariant.ends;
}

pub index-requires : goal.index-requires
index-requires c = ∥∥₁_elim c.loop-at.invariant.search (search props) (λ s. (let w = slice_get_within c.loop-at.table.rows.items c.loop-at.state s.row s.is in omega (arith, w)))

pub last-requires : goal.last-requires
last-requires c = λ k e. ∥∥₁_elim c.loop-at.invariant.search (search props) (λ s. (let x = ending_room c.args.nodes.now c.args.text.now c.args.entry c.args.from c.loop-at.at c.loop-at.state None c.loop-at.table c.index.result.now c.index.ensures s k e in omega (arith, x, ap length c.deref.ensures.value)))

pub returns-clause-best : goal.returns-clause-best
returns-clause-best c =
    let e : c.loop-at.at ≡ length c.args.text.now = omega (arith, c.loop-at-test.false, c.loop-at.invariant.inside) in
    ∥∥₁_map c.loop-at.invariant.search (λ s.
    end_at c.args.nodes.now c.args.text.now c.args.entry c.args.from c.loop-at.at c.loop-at.state None c.loop-at.table c.index.result.now c.index.ensures s c.last.result
    (c.last.ensures.best ∙ ap (λ xs. better_of (started xs c.index.result.now.at_end) (length c.args.text.now) None) c.deref.ensures.value) e)

pub returns-clause-ends : goal.returns-clause-ends
returns-clause-ends c =
    ending c.args.nodes.now c.args.text.now c.args.entry c.args.from c.loop-at.at c.loop-at.state None c.loop-at.table c.index.result.now c.index.ensures c.loop-at.ends c.last.new.ends false (omega (arith, c.loop-at-test.false, c.loop-at.invariant.inside)) c.loop-at.invariant.search
    (λ row is. dead_tails c.args.nodes.now c.args.text.now c.loop-at.at c.loop-at.at false row c.loop-at.ends c.loop-at.invariant.ends)
    (λ known is_first t. c.last.ensures.ends c.args.nodes.now c.args.text.now false known is_first refl t)
