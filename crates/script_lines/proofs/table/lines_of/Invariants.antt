use Rattle.std.proofs.Common.{◌≡◌, ◌++◌, Some, drop, map}
use Rattle.awk_tokens.specs.Views.{spelled}
use Rattle.awk_tree.specs.Lines.{line_at}
use Rattle.script_lines.specs.Lined.{line_number}
use Rattle.script_lines.proofs.table.lines_of.Given as goal

abbrev pub invariant-loop-before : goal.invariant-loop-before
invariant-loop-before l =
    l.lines.items ++ map (λ before. line_number (line_at (map spelled l.tokens) (Some before))) (drop l.before-index l.before-items) ≡ map (λ before. line_number (line_at (map spelled l.tokens) (Some before))) l.before-items
