use Rattle.std.proofs.Common.{◌≡◌, ◌++◌, List, drop}
use Rattle.awk_grammar.specs.ViewStmt.{view_script}
use Rattle.awk_tree.specs.Lines.{places_in}
use Rattle.script_places.specs.Passes.{Moment, counted_from}
use Rattle.script_places.specs.Tallies.{AreTallied, rows_of}
use Rattle.script_places.proofs.line_counts.add_function.Given as goal

abbrev pub invariant-loop-number : goal.invariant-loop-number
invariant-loop-number l = (moments : List Moment) → AreTallied moments (rows_of l.tally.rows.items)
    → l.places.items ++ counted_from (rows_of l.tally.nops.items) moments l.function l.number (drop l.number l.before-items)
    ≡ l.fn.places.items ++ counted_from (rows_of l.tally.nops.items) moments l.function 0 (places_in (view_script l.tree) l.function)
