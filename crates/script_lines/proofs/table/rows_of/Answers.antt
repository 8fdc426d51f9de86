use Rattle.std.proofs.Common.{◌∙◌, ◌<◌, arith, map, suc}
use Rattle.std.proofs.lemmas.List.{map_push}
use Rattle.awk_grammar.specs.ViewStmt.{view_script}
use Rattle.awk_tokens.specs.Views.{spelled}
use Rattle.script_places.specs.Lines.{form_of}
use Rattle.script_lines.proofs.Tables.{next_row}
use Rattle.script_lines.proofs.table.rows_of.Goals as goal

pub loop-function-preserved : goal.loop-function-preserved
loop-function-preserved c =
    let tokens = map spelled c.args.tokens.now in
    let script = view_script c.args.script.now in
    let old = c.loop-function.table.items in
    let row = c.in_ok-row_of.field-0 in
    let within = c.loop-function-test.true in
    let lt : c.loop-function.function < suc c.function_count-count.result = omega (arith, within) in
    rw (c.in_ok-push.ensures.items, map_push form_of old row, c.in_ok-row_of.ensures)
    (next_row tokens script (map form_of old) c.loop-function.function (suc c.function_count-count.result) lt ∙ c.loop-function.invariant)
