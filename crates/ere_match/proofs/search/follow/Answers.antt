use Rattle.std.proofs.Common.{arith, refl, ap, sym, ◌∙◌, ◌≡◌, ◌+◌, Some, length, subst, true}
use Rattle.std.specs.Prelude.{is_none}
use Rattle.std.proofs.Props.{props}
use Rattle.std.proofs.Math.Logic.{∥∥₁_elim, ∥∥₁_map, ∥∥₁_prop}
use Rattle.std.proofs.lemmas.Option.{slice_get_within}
use Rattle.ere_match.specs.Ends.{raised}
use Rattle.ere_match.specs.Threads.{better_of}
use Rattle.ere_match.specs.Rows.{AreEarly, IsLatest, started}
use Rattle.ere_match.proofs.Ends.{dead_tails, forgotten_dead, forgotten_tails, nowhere_dead, past_dead, raised_dead}
use Rattle.ere_match.proofs.Places.{early_moves, end_at, ending, ending_room, inside_room, over_at, read_early, read_tails, row_known, search_moves, search_tails}
use Rattle.ere_match.proofs.search.follow.Goals as goal

pub loop-at-init : goal.loop-at-init
loop-at-init c = record {
  above = c.requires.begun;
  inside = c.requires.inside;
  ended = c.requires.ended;
  table = c.requires.table;
  search = c.requires.search;
  early = c.requires.early;
  tails = λ row is. dead_tails c.args.nodes.now c.args.text.now c.args.at c.args.at true row (raised c.args.best.1 c.args.ends.now) (raised_dead c.args.nodes.now c.args.text.now c.args.best.1 c.args.ends.now c.requires.ends);
}

pub index-row-requires : goal.index-row-requires
index-row-requires c = ∥∥₁_elim c.loop-at.invariant.search (search props) (λ s. (let w = slice_get_within c.loop-at.table.rows.items c.loop-at.state s.row s.is in omega (arith, w)))

pub returns-then-done-clause-best : goal.returns-then-done-clause-best
returns-then-done-clause-best c = ∥∥₁_map c.loop-at.invariant.search (λ s.
    over_at c.args.nodes.now c.args.text.now c.args.entry c.args.from c.loop-at.at c.loop-at.state (Some c.loop-at.best) c.loop-at.table c.index-row.result.now c.index-row.ensures s (Some c.loop-at.best) refl
    (sym (ap (λ o. better_of (started c.loop-at.table.starts.items o) c.loop-at.at (Some c.loop-at.best)) (c.in_ok-done.ensures.none c.if-done.true)))
    (c.in_ok-done.ensures.over c.args.nodes.now c.args.text.now c.loop-at.best.1 c.loop-at.invariant.ended (row_known c.args.nodes.now c.args.text.now c.args.entry c.args.from c.loop-at.at c.loop-at.state (Some c.loop-at.best) c.loop-at.table c.index-row.result.now c.index-row.ensures s)
    (read_tails c.args.nodes.now c.args.text.now c.args.entry c.args.from c.loop-at.at c.loop-at.state (Some c.loop-at.best) c.loop-at.table c.index-row.result.now c.index-row.ensures (raised c.loop-at.best.1 c.loop-at.ends) c.loop-at.invariant.search c.loop-at.invariant.tails) c.if-done.true) c.loop-at-test.true)

pub returns-then-done-clause-ends : goal.returns-then-done-clause-ends
returns-then-done-clause-ends c = ∥∥₁_elim c.loop-at.invariant.search (hlevel props) (λ s.
    forgotten_dead c.args.nodes.now c.args.text.now c.loop-at.best.1 c.is_done.new.self c.forget.new.self c.forget.ensures.step c.forget.ensures.marks c.forget.ensures.higher c.forget.ensures.floor
    (nowhere_dead c.args.nodes.now c.args.text.now c.loop-at.at (c.loop-at.at + 1) true c.index-row.result.now (raised c.loop-at.best.1 c.is_done.new.self)
    (c.in_ok-done.ensures.over c.args.nodes.now c.args.text.now c.loop-at.best.1 c.loop-at.invariant.ended (row_known c.args.nodes.now c.args.text.now c.args.entry c.args.from c.loop-at.at c.loop-at.state (Some c.loop-at.best) c.loop-at.table c.index-row.result.now c.index-row.ensures s)
    (read_tails c.args.nodes.now c.args.text.now c.args.entry c.args.from c.loop-at.at c.loop-at.state (Some c.loop-at.best) c.loop-at.table c.index-row.result.now c.index-row.ensures (raised c.loop-at.best.1 c.loop-at.ends) c.loop-at.invariant.search c.loop-at.invariant.tails) c.if-done.true)
    (c.in_ok-done.ensures.tails c.args.nodes.now c.args.text.now c.loop-at.best.1 c.loop-at.invariant.ended (read_tails c.args.nodes.now c.args.text.now c.args.entry c.args.from c.loop-at.at c.loop-at.state (Some c.loop-at.best) c.loop-at.table c.index-row.result.now c.index-row.ensures (raised c.loop-at.best.1 c.loop-at.ends) c.loop-at.invariant.search c.loop-at.invariant.tails))))

pub longer-best-requires-clause-starts : goal.longer-best-requires-clause-starts
longer-best-requires-clause-starts c = λ k e. ∥∥₁_elim c.loop-at.invariant.search (search props) (λ s. (let x = inside_room c.args.nodes.now c.args.text.now c.args.entry c.args.from c.loop-at.at c.loop-at.state (Some c.loop-at.best) c.loop-at.table c.index-row.result.now c.index-row.ensures s k e in omega (arith, x, ap length c.deref.ensures.value)))

pub advance-requires-clause-state : goal.advance-requires-clause-state
advance-requires-clause-state c = ∥∥₁_elim c.loop-at.invariant.search (search props) (λ s. slice_get_within c.loop-at.table.rows.items c.loop-at.state s.row s.is)

pub go_on-requires-clause-search : goal.go_on-requires-clause-search
go_on-requires-clause-search c = ∥∥₁_elim c.loop-at.invariant.search ∥∥₁_prop (λ s.
    search_moves c.args.nodes.now c.args.text.now c.args.entry c.args.from c.loop-at.at c.loop-at.state (Some c.loop-at.best) c.loop-at.table c.index-row.result.now c.index-row.ensures c.in_ok-step.step.0 true (Some c.longer-best.result) c.args.classes.now c.advance.new.table c.loop-at.invariant.above c.loop-at-test.true
    (c.longer-best.ensures.best c.args.nodes.now (row_known c.args.nodes.now c.args.text.now c.args.entry c.args.from c.loop-at.at c.loop-at.state (Some c.loop-at.best) c.loop-at.table c.index-row.result.now c.index-row.ensures s)
    (subst (λ xs. AreEarly c.index-row.result.now xs c.loop-at.best.0) (sym c.deref.ensures.value) (read_early c.args.nodes.now c.args.text.now c.args.entry c.args.from c.loop-at.at c.loop-at.state (Some c.loop-at.best) c.loop-at.table c.index-row.result.now c.index-row.ensures c.loop-at.best.0 c.loop-at.invariant.search c.loop-at.invariant.early)) ∙ ap (λ xs. better_of (started xs c.index-row.result.now.inside) c.loop-at.at (Some c.loop-at.best)) c.deref.ensures.value) refl c.advance.ensures.table c.in_ok-step.ensures.moved c.loop-at.invariant.search)

pub returns-then-is_soon-clause-ends : goal.returns-then-is_soon-clause-ends
returns-then-is_soon-clause-ends c =
    forgotten_dead c.args.nodes.now c.args.text.now (c.loop-at.at + 1) c.is_done.new.self c.forget-then-is_soon.new.self c.forget-then-is_soon.ensures.step c.forget-then-is_soon.ensures.marks c.forget-then-is_soon.ensures.higher c.forget-then-is_soon.ensures.floor
    (past_dead c.args.nodes.now c.args.text.now c.loop-at.at (c.loop-at.at + 1) c.longer-best.result.1 (c.loop-at.at + 1) (is_none c.index-row.result.now.inside) c.index-row.result.now c.is_done.new.self (omega arith) (omega (arith, c.longer-best.ensures.end))
    (c.longer-best.ensures.tails c.args.nodes.now c.args.text.now c.is_done.new.self
    (c.in_ok-done.ensures.tails c.args.nodes.now c.args.text.now c.loop-at.best.1 c.loop-at.invariant.ended (read_tails c.args.nodes.now c.args.text.now c.args.entry c.args.from c.loop-at.at c.loop-at.state (Some c.loop-at.best) c.loop-at.table c.index-row.result.now c.index-row.ensures (raised c.loop-at.best.1 c.loop-at.ends) c.loop-at.invariant.search c.loop-at.invariant.tails))))

pub loop-at-preserved : goal.loop-at-preserved
loop-at-preserved c = record {
  above = omega (arith, c.loop-at.invariant.above);
  inside = omega (arith, c.loop-at-test.true);
  ended = omega (arith, c.longer-best.ensures.end);
  table = c.advance.ensures.table;
  search = ∥∥₁_elim c.loop-at.invariant.search ∥∥₁_prop (λ s.
      search_moves c.args.nodes.now c.args.text.now c.args.entry c.args.from c.loop-at.at c.loop-at.state (Some c.loop-at.best) c.loop-at.table c.index-row.result.now c.index-row.ensures c.in_ok-step.step.0 true (Some c.longer-best.result) c.args.classes.now c.advance.new.table c.loop-at.invariant.above c.loop-at-test.true
      (c.longer-best.ensures.best c.args.nodes.now (row_known c.args.nodes.now c.args.text.now c.args.entry c.args.from c.loop-at.at c.loop-at.state (Some c.loop-at.best) c.loop-at.table c.index-row.result.now c.index-row.ensures s)
      (subst (λ xs. AreEarly c.index-row.result.now xs c.loop-at.best.0) (sym c.deref.ensures.value) (read_early c.args.nodes.now c.args.text.now c.args.entry c.args.from c.loop-at.at c.loop-at.state (Some c.loop-at.best) c.loop-at.table c.index-row.result.now c.index-row.ensures c.loop-at.best.0 c.loop-at.invariant.search c.loop-at.invariant.early)) ∙ ap (λ xs. better_of (started xs c.index-row.result.now.inside) c.loop-at.at (Some c.loop-at.best)) c.deref.ensures.value) refl c.advance.ensures.table c.in_ok-step.ensures.moved c.loop-at.invariant.search);
  early = early_moves c.args.nodes.now c.args.text.now c.args.entry c.args.from c.loop-at.at c.loop-at.state (Some c.loop-at.best) c.loop-at.table c.index-row.result.now c.index-row.ensures c.in_ok-step.step.0 c.longer-best.result.0 c.args.classes.now c.advance.new.table
      (subst (λ xs. IsLatest c.index-row.result.now xs c.index-row.result.now.inside c.longer-best.result.0) c.deref.ensures.value (c.longer-best.ensures.latest
      (subst (λ xs. AreEarly c.index-row.result.now xs c.loop-at.best.0) (sym c.deref.ensures.value) (read_early c.args.nodes.now c.args.text.now c.args.entry c.args.from c.loop-at.at c.loop-at.state (Some c.loop-at.best) c.loop-at.table c.index-row.result.now c.index-row.ensures c.loop-at.best.0 c.loop-at.invariant.search c.loop-at.invariant.early)))) c.advance.ensures.table c.in_ok-step.ensures.moved c.loop-at.invariant.search;
  tails = λ row is.
      search_tails c.args.nodes.now c.args.text.now c.args.entry c.args.from c.loop-at.at c.loop-at.state (Some c.loop-at.best) c.loop-at.table c.index-row.result.now c.index-row.ensures c.in_ok-step.step.0 true (raised c.longer-best.result.1 c.is_done.new.self) c.advance.new.table c.loop-at-test.true c.in_ok-step.ensures.moved c.loop-at.invariant.search
      (c.longer-best.ensures.tails c.args.nodes.now c.args.text.now c.is_done.new.self
      (c.in_ok-done.ensures.tails c.args.nodes.now c.args.text.now c.loop-at.best.1 c.loop-at.invariant.ended (read_tails c.args.nodes.now c.args.text.now c.args.entry c.args.from c.loop-at.at c.loop-at.state (Some c.loop-at.best) c.loop-at.table c.index-row.result.now c.index-row.ensures (raised c.loop-at.best.1 c.loop-at.ends) c.loop-at.invariant.search c.loop-at.invariant.tails))) row is;
}

pub index-requires : goal.index-requires
index-requires c = ∥∥₁_elim c.loop-at.invariant.search (search props) (λ s. (let w = slice_get_within c.loop-at.table.rows.items c.loop-at.state s.row s.is in omega (arith, w)))

pub last-requires : goal.last-requires
last-requires c = λ k e. ∥∥₁_elim c.loop-at.invariant.search (search props) (λ s. (let x = ending_room c.args.nodes.now c.args.text.now c.args.entry c.args.from c.loop-at.at c.loop-at.state (Some c.loop-at.best) c.loop-at.table c.index.result.now c.index.ensures s k e in omega (arith, x, ap length c.deref-2.ensures.value)))

pub returns-clause-best : goal.returns-clause-best
returns-clause-best c =
    let e : c.loop-at.at ≡ length c.args.text.now = omega (arith, c.loop-at-test.false, c.loop-at.invariant.inside) in
    ∥∥₁_map c.loop-at.invariant.search (λ s.
    end_at c.args.nodes.now c.args.text.now c.args.entry c.args.from c.loop-at.at c.loop-at.state (Some c.loop-at.best) c.loop-at.table c.index.result.now c.index.ensures s c.last.result
    (c.last.ensures.best ∙ ap (λ xs. better_of (started xs c.index.result.now.at_end) (length c.args.text.now) (Some c.loop-at.best)) c.deref-2.ensures.value) e)

pub returns-clause-ends : goal.returns-clause-ends
returns-clause-ends c =
    ending c.args.nodes.now c.args.text.now c.args.entry c.args.from c.loop-at.at c.loop-at.state (Some c.loop-at.best) c.loop-at.table c.index.result.now c.index.ensures c.forget-2.new.self c.last.new.ends true (omega (arith, c.loop-at-test.false, c.loop-at.invariant.inside)) c.loop-at.invariant.search
    (λ row is. forgotten_tails c.args.nodes.now c.args.text.now c.loop-at.best.1 c.loop-at.ends c.forget-2.new.self c.forget-2.ensures.step c.forget-2.ensures.marks c.forget-2.ensures.higher c.forget-2.ensures.floor c.loop-at.at c.loop-at.at true row (c.loop-at.invariant.tails row is))
    (λ known is_first t. c.last.ensures.ends c.args.nodes.now c.args.text.now true known is_first refl t)
