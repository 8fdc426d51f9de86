use Rattle.std.proofs.Common.{◌≡◌, ◌∷◌, [], List, drop, false}
use Rattle.std.specs.Prelude.{◌↔◌}
use Rattle.wasm_types.specs.declared.types.ValType.{ValType}
use Rattle.wasm_types.specs.View.{views}
use Rattle.module_validator.specs.Checks.{context_of, RunsFrom}
use Rattle.module_validator.proofs.checker.Scope.+walk.Given as goal

abbrev pub invariant-body-loop-i : goal.invariant-body-loop-i
invariant-body-loop-i l = record {
  labels_are : l.labels ≡ l.fn.label ∷ l.fn.labels;
  runs : (ns : List ValType) → RunsFrom (context_of l.self) (l.fn.label ∷ l.fn.labels) (views l.fn.code) ([], false) ns ↔ RunsFrom (context_of l.self) (l.fn.label ∷ l.fn.labels) (views (drop l.i-index l.code)) l.stack ns;
}
