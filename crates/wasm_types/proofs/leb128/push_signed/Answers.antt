use Rattle.std.proofs.Common.{◌≡◌, ◌∙◌, ◌++◌, append_assoc, arith, cond, ltb, ◌+◌, ◌*◌, ◌/◌, ◌-◌, ◌<◌}
use Rattle.std.proofs.lemmas.Bool.{lt-ltb, le-ltb}
use Rattle.wasm_types.specs.Leb128Texts.{signed_text}
use Rattle.wasm_types.proofs.Groups.{signed_more}
use Rattle.wasm_types.proofs.leb128.push_signed.Goals as goal
use Rattle.wasm_types.proofs.leb128.push_signed.Goals.{then-rest-half, else-rest-half}

pub loop-left-preserved : goal.loop-left-preserved
loop-left-preserved c =
    let left = c.loop-left.left in
    let half = c.args.half in
    let rest = c.loop-left.rest in
    let some = c.loop-left-test.true in
    let small = c.loop-left.invariant.small in
    let whole = c.requires.whole in
    let next : c.if-rest-half.rest ≡ cond (ltb rest half) (rest / 128) (rest / 128 + (2 * half - 2 * half / 128)) = elim c.if-rest-half.branch [
      | then-rest-half w ↦ rw (lt-ltb rest half w.if-rest-half.true) w.rest-is
      | else-rest-half w ↦ rw (le-ltb rest half w.if-rest-half.false) (omega (arith, w.rest-is, whole, small))
    ] in
    let below : c.if-rest-half.rest < 2 * half = elim c.if-rest-half.branch [
      | then-rest-half w ↦ omega (arith, w.rest-is, small, whole)
      | else-rest-half w ↦ omega (arith, w.rest-is, small, whole)
    ] in
    let more = signed_more left half rest (omega (arith, some)) (omega (arith, c.if-rest-lt64.false)) (omega (arith, c.if-half-rest.false, small, whole)) in
    let pushed = c.push_reserved-in-loop-left.ensures in
    let same : c.push_reserved-in-loop-left.new.self.items ++ signed_text (left - 1) half c.if-rest-half.rest ≡ c.loop-left.out.items ++ signed_text left half rest =
    rw pushed.items (rw (more, next) (simp append_assoc)) in
    record {
      text = same ∙ c.loop-left.invariant.text;
      room = omega (arith, some, pushed.len, pushed.capacity, c.loop-left.invariant.room);
      small = below;
    }
