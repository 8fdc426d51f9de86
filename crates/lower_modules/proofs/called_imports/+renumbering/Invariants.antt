use Rattle.std.proofs.Common.{◌≡◌, ◌≤◌, drop, length}
use Rattle.std.specs.Vec.{vec_len, vec_capacity}
use Rattle.wasm_types.specs.View.{views}
use Rattle.wasm_types.proofs.Views.{followed_by}
use Rattle.lower_model.specs.Modules.{renumbered}
use Rattle.lower_modules.proofs.called_imports.+renumbering.Given as goal

abbrev pub invariant-renumbered-loop-instr : goal.invariant-renumbered-loop-instr
invariant-renumbered-loop-instr l = record {
  code : followed_by (views l.out.items) (renumbered l.numbers.called.now (views (drop l.instr-index l.code))) ≡ renumbered l.numbers.called.now (views l.code);
  count : vec_len l.out ≡ l.instr-index;
  room : length l.code ≤ vec_capacity l.out;
}
