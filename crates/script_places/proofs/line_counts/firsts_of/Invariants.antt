use Rattle.std.proofs.Common.{map, take}
use Rattle.awk_tokens.specs.Views.{spelled}
use Rattle.script_places.specs.Passes.{AreFirsts}
use Rattle.script_places.proofs.line_counts.firsts_of.Given as goal

abbrev pub invariant-loop-place : goal.invariant-loop-place
invariant-loop-place l = AreFirsts (map spelled l.tokens) (take l.place-index l.places) l.lines.items
