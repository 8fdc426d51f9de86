use Rattle.std.proofs.Common.{◌≡◌, ◌-◌, length, drop, take, Some}
use Rattle.ere_syntax.specs.Matches.{Matches}
use Rattle.ere_syntax.specs.View.{view, views, or_all}
use Rattle.ere_match.specs.Means.{AreBuilt, IsBuilt, InTurn, Power, Turns}
use Rattle.ere_match.proofs.assemble.+build.Given as goal

abbrev pub invariant-all_of-loop-done : goal.invariant-all_of-loop-done
invariant-all_of-loop-done l = AreBuilt l.fn.nodes.items l.nodes.items (InTurn (views (drop (length l.parts - l.done) l.parts))) l.entry l.next

abbrev pub invariant-any_of-loop-place : goal.invariant-any_of-loop-place
invariant-any_of-loop-place l = record {
  built : IsBuilt l.fn.nodes.items l.nodes.items (or_all (views (take l.place l.parts))) l.entry l.next;
  first : l.place ≡ 0 → l.nodes.items ≡ l.fn.nodes.items;
}

abbrev pub invariant-copies-loop-turn : goal.invariant-copies-loop-turn
invariant-copies-loop-turn l = AreBuilt l.fn.nodes.items l.nodes.items (Power (Matches (view l.inner)) l._turn) l.entry l.next

abbrev pub invariant-up_to-loop-turn : goal.invariant-up_to-loop-turn
invariant-up_to-loop-turn l = AreBuilt l.fn.nodes.items l.nodes.items (Turns (Matches (view l.inner)) 0 (Some l._turn)) l.entry l.next
