use Rattle.std.proofs.Common.{◌-◌, List}
use Rattle.awk_grammar.specs.Trees.{Item}
use Rattle.awk_grammar.specs.ReadItem.{script_at}
use Rattle.awk_grammar.specs.ViewStmt.{view_items}
use Rattle.awk_parse.specs.Parsed.{At, at, Ends}
use Rattle.awk_parse.proofs.Scripts.{left_items}
use Rattle.awk_parse.proofs.item.all_items.Given as goal

abbrev pub invariant-loop : goal.invariant-loop
invariant-loop l = (v : List Item) (s : At) → Ends v (at l.source) s (left_items (view_items l.read.items) (l.turns - l.counter)) → Ends v (at l.fn.source) s (script_at 1000)
