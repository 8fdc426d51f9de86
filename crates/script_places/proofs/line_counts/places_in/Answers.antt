use Rattle.std.proofs.Common.{◌++◌, ◌∙◌, List, ap}
use Rattle.awk_grammar.specs.ViewStmt.{view_script}
use Rattle.awk_tree.specs.Lines.{places_in}
use Rattle.run_report.specs.declared.counts.PlaceCount.{PlaceCount}
use Rattle.script_places.specs.Passes.{counted_from}
use Rattle.script_places.specs.Tallies.{rows_of}
use Rattle.script_places.proofs.Listed.{one_function}
use Rattle.script_places.proofs.line_counts.places_in.Goals as goal

pub loop-function-preserved : goal.loop-function-preserved
loop-function-preserved c = λ moments tallied.
    let script = view_script c.args.tree.now in
    let nops = rows_of c.args.tally.now.nops.items in
    let f = c.loop-function.function in
    c.in_ok-add_function.ensures moments tallied ∙ (ap (λ (ps : List PlaceCount). ps ++ counted_from nops moments f 0 (places_in script f)) (c.loop-function.invariant moments tallied) ∙ one_function script nops moments f)
