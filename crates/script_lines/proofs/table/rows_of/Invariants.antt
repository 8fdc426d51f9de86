use Rattle.std.proofs.Common.{◌≡◌, ◌-◌, ◌++◌, suc, map}
use Rattle.awk_grammar.specs.ViewStmt.{view_script}
use Rattle.awk_tokens.specs.Views.{spelled}
use Rattle.script_places.specs.Lines.{form_of}
use Rattle.script_lines.specs.Lined.{rows_from}
use Rattle.script_lines.proofs.table.rows_of.Given as goal

abbrev pub invariant-loop-function : goal.invariant-loop-function
invariant-loop-function l =
    map form_of l.table.items ++ rows_from (map spelled l.tokens) (view_script l.script) (suc l.count - l.function) l.function ≡ rows_from (map spelled l.tokens) (view_script l.script) (suc l.count) 0
