use Rattle.std.proofs.Common.{◌≡◌, ℕ, List, ◌<◌, ◌≤◌, length, ap, sym, ◌∙◌, arith, subst, w32}
use Rattle.std.proofs.lemmas.Int.{ints, of_z-to_z}
use Rattle.std.specs.Int.{cast_unsigned}
use Rattle.wasm_types.specs.Leb128.{IsS32}
use Rattle.wasm_types.specs.Leb128Texts.{s32_text}
use Rattle.wasm_types.proofs.Groups.{s32_written, s32_least}
use Rattle.wasm_types.proofs.leb128.write_s32.Goals as goal

pub returns-clause-spelled : goal.returns-clause-spelled
returns-clause-spelled c =
    let small : cast_unsigned w32 c.args.n < 4294967296 = omega (arith, ints) in
    let text : c.push_s32.new.out.items ≡ s32_text (cast_unsigned w32 c.args.n) = c.in_ok-push_s32.ensures.done ∙ rw (c.new-out.ensures.items, c.cast_unsigned.ensures) (ap s32_text (of_z-to_z w32 (cast_unsigned w32 c.args.n) small)) in
    subst (λ (u : List ℕ). IsS32 u (cast_unsigned w32 c.args.n)) (sym text) (s32_written (cast_unsigned w32 c.args.n) small)

pub returns-clause-minimal : goal.returns-clause-minimal
returns-clause-minimal c = λ other h.
    let small : cast_unsigned w32 c.args.n < 4294967296 = omega (arith, ints) in
    let text : c.push_s32.new.out.items ≡ s32_text (cast_unsigned w32 c.args.n) = c.in_ok-push_s32.ensures.done ∙ rw (c.new-out.ensures.items, c.cast_unsigned.ensures) (ap s32_text (of_z-to_z w32 (cast_unsigned w32 c.args.n) small)) in
    subst (λ (u : List ℕ). length u ≤ length other) (sym text) (s32_least (cast_unsigned w32 c.args.n) other h)
