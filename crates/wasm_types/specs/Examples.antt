-- Worked integers, computed from the definitions.
use Rattle.std.specs.Prelude.{◌≡◌, ◌^◌, [], ◌∷◌, Some, None, refl}
use Rattle.std.specs.Int.{cast_unsigned, w32}
use Rattle.std.specs.Prelude.{negsuc}
use Rattle.wasm_types.specs.Leb128Texts.{unsigned_at, signed_at, unsigned_text, signed_text}
use Rattle.wasm_types.specs.declared.instr.Simple.TheVariants as simple
use Rattle.wasm_types.specs.declared.instr.IBinOp.TheVariants.{Add}
use Rattle.wasm_types.specs.declared.instr.CvtOp.TheVariants.{I64Extend32S}
use Rattle.wasm_types.specs.declared.opcodes.Lead.TheVariants as lead
use Rattle.wasm_types.specs.declared.types.ValType.TheVariants.{I32, I64}
use Rattle.wasm_types.specs.Runs.{expanded_from}
use Rattle.wasm_types.specs.Opcodes.{opcode}
use Rattle.wasm_types.specs.Leads.{lead_at}

three_bytes : unsigned_text 5 624485 ≡ 0xe5 ∷ 0x8e ∷ 0x26 ∷ []
three_bytes = refl

unused_bits : unsigned_at 5 (2 ^ 32) (0x80 ∷ 0x80 ∷ 0x80 ∷ 0x80 ∷ 0x10 ∷ []) ≡ None
unused_bits = refl

longer_than_minimal : unsigned_at 5 (2 ^ 32) (0x80 ∷ 0x80 ∷ 0x80 ∷ 0x80 ∷ 0x00 ∷ 7 ∷ []) ≡ Some (0, 7 ∷ [])
longer_than_minimal = refl

negative : signed_text 5 (2 ^ 31) (cast_unsigned w32 (negsuc 123455)) ≡ 0xc0 ∷ 0xbb ∷ 0x78 ∷ []
negative = refl

two_for_the_sign : signed_text 5 (2 ^ 31) 99 ≡ 0xe3 ∷ 0x00 ∷ []
two_for_the_sign = refl

least : signed_text 10 (2 ^ 63) (2 ^ 63) ≡ 0x80 ∷ 0x80 ∷ 0x80 ∷ 0x80 ∷ 0x80 ∷ 0x80 ∷ 0x80 ∷ 0x80 ∷ 0x80 ∷ 0x7f ∷ []
least = refl

sign_bits : signed_at 5 (2 ^ 31) (0x80 ∷ 0x80 ∷ 0x80 ∷ 0x80 ∷ 0x08 ∷ []) ≡ None
sign_bits = refl

add : opcode (simple.Binary I32 Add) ≡ 0x6a
add = refl

last_of_sign_extension : (lead_at 0xc4 ≡ lead.Bare (simple.Convert I64Extend32S)) × (lead_at 0xc5 ≡ lead.Unknown)
unfolding lead_at
last_of_sign_extension = (refl, refl)

-- two locals of 32 bits and one of 64
two_runs : expanded_from 0 (record { end = 2; ty = I32 } ∷ (record { end = 3; ty = I64 } ∷ [])) ≡ I32 ∷ (I32 ∷ (I64 ∷ []))
two_runs = refl
