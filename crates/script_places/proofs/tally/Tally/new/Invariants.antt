use Rattle.std.proofs.Common.{◌≡◌, ◌++◌, [], drop, map}
use Rattle.wasm_types.specs.View.{view_func}
use Rattle.script_places.specs.Passes.{nops_of}
use Rattle.script_places.specs.Tallies.{AreTallied, rows_of}
use Rattle.script_places.proofs.tally.Tally.new.Given as goal

abbrev pub invariant-loop-func : goal.invariant-loop-func
invariant-loop-func l =
    (rows_of l.tally.nops.items ++ map nops_of (map view_func (drop l.func-index l.func-items)) ≡ map nops_of (map view_func l.func-items))
    × AreTallied [] (rows_of l.tally.rows.items) × (l.tally.values ≡ 0)
