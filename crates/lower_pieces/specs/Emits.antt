-- Instructions that were emitted, with others after them.
use Rattle.std.specs.Prelude.{◌≡◌, false, List, [], ◌∷◌}
use Rattle.wasm_types.specs.Syntax.{Instructions, Then}
use Rattle.wasm_types.specs.View.{view}
use Rattle.wasm_types.specs.declared.instr.Instr.{Instr}
use Rattle.wasm_types.specs.declared.instr.Simple.{Simple}
use Rattle.lower_model.specs.Small.{emit}
use Rattle.lower_pieces.specs.declared.emitted.Emitted.{Emitted}

abbrev pub followed : List Instr → Instructions → Instructions
followed [] rest = rest
followed (first ∷ others) rest = Then (view first) (followed others rest)

-- what was emitted, with these instructions after it, is the whole, unless memory ran out
pub record Reads (out : Emitted) (rest whole : Instructions) : Type 0 where
  pub reads : out.is_refused ≡ false → followed out.code.items rest ≡ whole

-- between the two this code was added, whatever comes after it, unless memory ran out
abbrev pub Emits : Emitted → Emitted → (Instructions → Instructions) → Type 0
Emits before after code = (rest whole : Instructions) → Reads before (code rest) whole → Reads after rest whole

-- this code was emitted, whatever comes after it, unless memory ran out
abbrev pub Holds : Emitted → (Instructions → Instructions) → Type 0
Holds out code = (rest : Instructions) → Reads out rest (code rest)

abbrev pub emit_all : List Simple → Instructions → Instructions
emit_all [] after = after
emit_all (first ∷ others) after = emit first (emit_all others after)
