use Rattle.std.proofs.Common.{◌≡◌, ℕ, List, ◌≤◌, length, refl, sym, ◌∙◌, subst}
use Rattle.wasm_types.specs.Leb128.{IsU32}
use Rattle.wasm_types.specs.Leb128Texts.{u32_text}
use Rattle.wasm_types.proofs.Groups.{u32_written, u32_least}
use Rattle.wasm_types.proofs.leb128.write_u32.Goals as goal

pub returns-clause-spelled : goal.returns-clause-spelled
returns-clause-spelled c =
    let text : c.push_u32.new.out.items ≡ u32_text c.args.n = c.in_ok-push_u32.ensures.done ∙ rw c.new-out.ensures.items refl in
    subst (λ (u : List ℕ). IsU32 u c.args.n) (sym text) (u32_written c.args.n c.ranges.n.fits)

pub returns-clause-minimal : goal.returns-clause-minimal
returns-clause-minimal c = λ other h.
    let text : c.push_u32.new.out.items ≡ u32_text c.args.n = c.in_ok-push_u32.ensures.done ∙ rw c.new-out.ensures.items refl in
    subst (λ (u : List ℕ). length u ≤ length other) (sym text) (u32_least c.args.n other h)
