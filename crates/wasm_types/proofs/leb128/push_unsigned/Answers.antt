use Rattle.std.proofs.Common.{◌≡◌, ◌∙◌, ◌++◌, ◌-◌, ◌/◌, append_assoc, arith}
use Rattle.wasm_types.specs.Leb128Texts.{unsigned_text}
use Rattle.wasm_types.proofs.Groups.{unsigned_more}
use Rattle.wasm_types.proofs.leb128.push_unsigned.Goals as goal

pub loop-left-preserved : goal.loop-left-preserved
loop-left-preserved c =
    let left = c.loop-left.left in
    let rest = c.loop-left.rest in
    let some = c.loop-left-test.true in
    let more = unsigned_more left rest (omega (arith, some)) (omega (arith, c.if-rest-lt128.false)) in
    let pushed = c.push_reserved-in-loop-left.ensures in
    let same : c.push_reserved-in-loop-left.new.self.items ++ unsigned_text (left - 1) (rest / 128) ≡ c.loop-left.out.items ++ unsigned_text left rest =
    rw pushed.items (rw more (simp append_assoc)) in
    record {
      text = same ∙ c.loop-left.invariant.text;
      room = omega (arith, some, pushed.len, pushed.capacity, c.loop-left.invariant.room);
    }
