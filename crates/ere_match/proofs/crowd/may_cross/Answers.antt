use Rattle.std.proofs.Common.{arith, refl, sym, subst, ◌∙◌, ◌≡◌, ◌+◌, length, get_or, Option, ℕ, None}
use Rattle.std.specs.Prelude.{IfSome}
use Rattle.std.proofs.lemmas.Option.{slice_get-get_or, slice_get_within}
use Rattle.ere_match.specs.Crowds.{HasLeapt}
use Rattle.ere_match.specs.Threads.{IsBest}
use Rattle.ere_match.proofs.Crowds.{crowded_begins, crowded_none, crowded_on, crowded_over}
use Rattle.ere_match.proofs.Hastes.{not_some}
use Rattle.ere_match.proofs.Scans.{best_start}
use Rattle.ere_match.proofs.Tables.{item_is}
use Rattle.ere_match.proofs.crowd.may_cross.Goals as goal

pub loop-at-init : goal.loop-at-init
loop-at-init c = record {
  inside = c.requires.inside;
  crowd = c.in_ok-state.ensures.crowd;
  crowded = crowded_begins c.args.nodes.now c.args.text.now c.args.entry c.args.from c.in_ok-state.state c.gather.new.crowd c.in_ok-state.ensures.gathered;
  none = best_start c.args.nodes.now c.args.text.now c.args.entry c.args.from c.args.from refl;
}

pub index-requires : goal.index-requires
index-requires c = (let w = slice_get_within c.loop-at.crowd.table.rows.items c.loop-at.state c.loop-at.invariant.crowded.row c.loop-at.invariant.crowded.is in omega (arith, w))

pub leap-requires-clause-state : goal.leap-requires-clause-state
leap-requires-clause-state c = slice_get_within c.loop-at.crowd.table.rows.items c.loop-at.state c.loop-at.invariant.crowded.row c.loop-at.invariant.crowded.is

pub loop-at-preserved : goal.loop-at-preserved
loop-at-preserved c =
    let s = c.loop-at in
    let inside = slice_get_within s.crowd.table.rows.items s.state s.invariant.crowded.row s.invariant.crowded.is in
    let read = item_is s.crowd.table.rows.items s.state c.index.result.now inside c.index.ensures in
    let leapt = subst (λ (o : Option ℕ). IfSome o (HasLeapt c.args.nodes.now c.args.entry (get_or c.args.text.now s.at 0) s.crowd s.state c.leap.new.crowd)) c.in-Some.is c.in_ok-to.ensures.leapt in
    record {
      inside = omega (arith, c.loop-at-test.true);
      crowd = c.in_ok-to.ensures.crowd;
      crowded = crowded_on c.args.nodes.now c.args.text.now c.args.entry c.args.from s.at s.state c.args.classes.now s.crowd c.index.result.now read s.invariant.crowd s.invariant.crowded (get_or c.args.text.now s.at 0) c.in-Some.to c.leap.new.crowd c.loop-at-test.true (slice_get-get_or c.args.text.now s.at 0 c.loop-at-test.true) leapt;
      none = crowded_none c.args.nodes.now c.args.text.now c.args.entry c.args.from s.at s.state c.args.classes.now s.crowd c.index.result.now read s.invariant.crowd s.invariant.crowded (not_some c.index.result.now.inside (sym c.is_some.ensures ∙ c.if-is_some.false)) c.loop-at-test.true s.invariant.none;
    }

pub index-requires-2 : goal.index-requires-2
index-requires-2 c = (let w = slice_get_within c.loop-at.crowd.table.rows.items c.loop-at.state c.loop-at.invariant.crowded.row c.loop-at.invariant.crowded.is in omega (arith, w))

pub returns : goal.returns
returns c = λ no.
    (let s = c.loop-at in
    let e : s.at ≡ length c.args.text.now = omega (arith, c.loop-at-test.false, s.invariant.inside) in
    let inside = slice_get_within s.crowd.table.rows.items s.state s.invariant.crowded.row s.invariant.crowded.is in
    let read = item_is s.crowd.table.rows.items s.state c.index-2.result.now inside c.index-2.ensures in
    subst (λ n. IsBest c.args.nodes.now c.args.text.now c.args.entry c.args.from (n + 1) None) e
    (crowded_over c.args.nodes.now c.args.text.now c.args.entry c.args.from s.at s.state c.args.classes.now s.crowd c.index-2.result.now read s.invariant.crowd s.invariant.crowded (not_some c.index-2.result.now.at_end (sym c.is_some-2.ensures ∙ no)) e s.invariant.none))
