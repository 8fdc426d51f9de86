use Rattle.std.proofs.Common.{◌≡◌, ◌+◌, ◌++◌, map, drop}
use Rattle.std.specs.Global.{Vec}
use Rattle.std.specs.Prelude.{ℕ}
use Rattle.module_writer.specs.Names.{functions_text, named_from}
use Rattle.module_writer.proofs.names.functions.Given as goal

abbrev pub invariant-loop-name : goal.invariant-loop-name
invariant-loop-name l =
    (l.number ≡ l.first + l.name-index)
    × (l.made.items ++ named_from l.number (map (λ (name : Vec ℕ). name.items) (drop l.name-index l.names)) ≡ functions_text l.first (map (λ (name : Vec ℕ). name.items) l.names))
