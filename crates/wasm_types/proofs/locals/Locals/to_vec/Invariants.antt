use Rattle.std.proofs.Common.{◌≡◌, ◌++◌, drop, length}
use Rattle.wasm_types.specs.Runs.{Rises, expanded_from}
use Rattle.wasm_types.proofs.locals.Locals.to_vec.Given as goal

abbrev pub invariant-loop-run : goal.invariant-loop-run
invariant-loop-run l = record {
  so_far : l.types.items ++ expanded_from (length l.types.items) (drop l.run-index l.run-items) ≡ expanded_from 0 l.run-items;
  rises : Rises (length l.types.items) (drop l.run-index l.run-items);
}
