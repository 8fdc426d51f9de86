use Rattle.std.proofs.Common.{◌≡◌, ◌++◌, drop, map}
use Rattle.script_places.specs.Lines.{form_of}
use Rattle.script_lines.proofs.compiling.names_of.Given as goal

abbrev pub invariant-loop-function : goal.invariant-loop-function
invariant-loop-function l =
    map (λ name. name.items) l.names.items ++ map (λ f. f.name) (map form_of (drop l.function-index l.table)) ≡ map (λ f. f.name) (map form_of l.table)
