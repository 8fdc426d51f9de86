use Rattle.std.proofs.Common.{◌≡◌, List}
use Rattle.awk_grammar.specs.ViewStmt.{view_script}
use Rattle.script_places.specs.Passes.{Moment, counted_in}
use Rattle.script_places.specs.Tallies.{AreTallied, rows_of}
use Rattle.script_places.proofs.line_counts.places_in.Given as goal

abbrev pub invariant-loop-function : goal.invariant-loop-function
invariant-loop-function l = (moments : List Moment) → AreTallied moments (rows_of l.tally.rows.items)
    → l.places.items ≡ counted_in (view_script l.tree) (rows_of l.tally.nops.items) moments l.function
