use Rattle.std.proofs.Common.{◌≡◌, ℕ, List, ◌<◌, ◌≤◌, length, ap, sym, ◌∙◌, arith, subst, w64}
use Rattle.std.proofs.lemmas.Int.{ints, of_z-to_z}
use Rattle.std.specs.Int.{cast_unsigned}
use Rattle.wasm_types.specs.Leb128.{IsS64}
use Rattle.wasm_types.specs.Leb128Texts.{s64_text}
use Rattle.wasm_types.proofs.Groups.{s64_written, s64_least}
use Rattle.wasm_types.proofs.leb128.write_s64.Goals as goal

pub returns-clause-spelled : goal.returns-clause-spelled
returns-clause-spelled c =
    let small : cast_unsigned w64 c.args.n < 18446744073709551616 = omega (arith, ints) in
    let text : c.push_s64.new.out.items ≡ s64_text (cast_unsigned w64 c.args.n) = c.in_ok-push_s64.ensures.done ∙ rw (c.new-out.ensures.items, c.cast_unsigned.ensures) (ap s64_text (of_z-to_z w64 (cast_unsigned w64 c.args.n) small)) in
    subst (λ (u : List ℕ). IsS64 u (cast_unsigned w64 c.args.n)) (sym text) (s64_written (cast_unsigned w64 c.args.n) small)

pub returns-clause-minimal : goal.returns-clause-minimal
returns-clause-minimal c = λ other h.
    let small : cast_unsigned w64 c.args.n < 18446744073709551616 = omega (arith, ints) in
    let text : c.push_s64.new.out.items ≡ s64_text (cast_unsigned w64 c.args.n) = c.in_ok-push_s64.ensures.done ∙ rw (c.new-out.ensures.items, c.cast_unsigned.ensures) (ap s64_text (of_z-to_z w64 (cast_unsigned w64 c.args.n) small)) in
    subst (λ (u : List ℕ). length u ≤ length other) (sym text) (s64_least (cast_unsigned w64 c.args.n) other h)
