use Rattle.std.proofs.Common.{◌≡◌, ◌≤◌, None, List, [], ◌∷◌, length, refl, arith}
use Rattle.wasm_types.specs.declared.instr.Instr.{Instr}
use Rattle.wasm_types.specs.Typing.{constant_type}
use Rattle.wasm_types.specs.View.{views}
use Rattle.module_validator.proofs.level.constant_type.Goals as goal

longer : (code : List Instr) → 2 ≤ length code → None ≡ constant_type (views code)
longer [] h = absurd (omega arith)
longer (a ∷ []) h = absurd (omega arith)
longer (a ∷ b ∷ code) h = refl

pub returns-in_default-2 : goal.returns-in_default-2
returns-in_default-2 c = longer c.args.code.now c.in_default.len_at_least
