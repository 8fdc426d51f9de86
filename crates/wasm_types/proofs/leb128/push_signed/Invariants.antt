use Rattle.std.proofs.Common.{◌≡◌, ◌≤◌, ◌<◌, ◌+◌, ◌*◌, ◌++◌}
use Rattle.std.specs.Vec.{vec_len, vec_capacity}
use Rattle.wasm_types.specs.Leb128Texts.{signed_text}
use Rattle.wasm_types.proofs.leb128.push_signed.Given as goal

abbrev pub invariant-loop-left : goal.invariant-loop-left
invariant-loop-left l = record {
  text : l.out.items ++ signed_text l.left l.half l.rest ≡ l.initial.out.items ++ signed_text l.most l.half l.n;
  room : vec_len l.out + l.left ≤ vec_capacity l.out;
  small : l.rest < 2 * l.half;
}

abbrev pub decreases-loop-left : goal.decreases-loop-left
decreases-loop-left l = l.left
