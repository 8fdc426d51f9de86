-- What a byte begins, found in a list of all that one can begin.
use Rattle.std.specs.Prelude.{ℕ, List, [], ◌∷◌, ◌==◌, ◌&&◌, ◌||◌, nat_le, Bool, if◌then◌else◌}
use Rattle.wasm_types.specs.declared.types.ValType.TheVariants.{I32, I64}
use Rattle.wasm_types.specs.declared.instr.ITestOp.TheVariants.{Eqz}
use Rattle.wasm_types.specs.declared.instr.IRelOp.TheVariants.{Eq, Ne, LtS, LtU, GtS, GtU, LeS, LeU, GeS, GeU}
use Rattle.wasm_types.specs.declared.instr.IUnOp.TheVariants.{Clz, Ctz, Popcnt}
use Rattle.wasm_types.specs.declared.instr.IBinOp.TheVariants.{Add, Sub, Mul, DivS, DivU, RemS, RemU, And, Or, Xor, Shl, ShrS, ShrU, Rotl, Rotr}
use Rattle.wasm_types.specs.declared.instr.CvtOp.TheVariants.{I32WrapI64, I64ExtendI32S, I64ExtendI32U, I32Extend8S, I32Extend16S, I64Extend8S, I64Extend16S, I64Extend32S}
use Rattle.wasm_types.specs.declared.instr.LoadOp.TheVariants.{I32Load, I64Load, I32Load8S, I32Load8U, I32Load16S, I32Load16U, I64Load8S, I64Load8U, I64Load16S, I64Load16U, I64Load32S, I64Load32U}
use Rattle.wasm_types.specs.declared.instr.StoreOp.TheVariants.{I32Store, I64Store, I32Store8, I32Store16, I64Store8, I64Store16, I64Store32}
use Rattle.wasm_types.specs.declared.instr.Simple.{Simple}
use Rattle.wasm_types.specs.declared.instr.Simple.TheVariants as simple
use Rattle.wasm_types.specs.declared.opcodes.IndexOp.{IndexOp}
use Rattle.wasm_types.specs.declared.opcodes.IndexOp.TheVariants.{Br, BrIf, Call, LocalGet, LocalSet, LocalTee, GlobalGet, GlobalSet}
use Rattle.wasm_types.specs.declared.opcodes.Lead.{Lead}
use Rattle.wasm_types.specs.declared.opcodes.Lead.TheVariants as lead
use Rattle.wasm_types.specs.Opcodes.{load_opcode, store_opcode, index_opcode, opcode}
use Rattle.wasm_types.specs.Immediates.{Immediates, Nothing, Index, immediates}

abbrev pub NoImmediates : Immediates → Type 0
NoImmediates Nothing = Unit {0}
NoImmediates i = ⊥

-- an instruction with one index
abbrev pub indexed : IndexOp → ℕ → Simple
indexed Br n = simple.Br n
indexed BrIf n = simple.BrIf n
indexed Call n = simple.Call n
indexed LocalGet n = simple.LocalGet n
indexed LocalSet n = simple.LocalSet n
indexed LocalTee n = simple.LocalTee n
indexed GlobalGet n = simple.GlobalGet n
indexed GlobalSet n = simple.GlobalSet n

-- the byte of what an opcode begins; 256 for what no byte does
abbrev pub code : Lead → ℕ
code (lead.Bare p) = opcode p
code (lead.Index i) = index_opcode i
code (lead.Load op) = load_opcode op
code (lead.Store op) = store_opcode op
code lead.I32Const = 0x41
code lead.I64Const = 0x42
code lead.CallIndirect = 0x11
code lead.MemorySize = 0x3f
code lead.MemoryGrow = 0x40
code lead.BrTable = 0x0e
code lead.Block = 0x02
code lead.Loop = 0x03
code lead.If = 0x04
code lead.Else = 0x05
code lead.End = 0x0b
code lead.Float = 256
code lead.Unknown = 256

-- all that an opcode of the profile can begin: control and variables
abbrev pub control_leads : List Lead
control_leads =
    lead.Bare simple.Unreachable ∷ lead.Bare simple.Nop ∷ lead.Bare simple.Return ∷ lead.Bare simple.Drop ∷ lead.Bare simple.Select ∷
    lead.Block ∷ lead.Loop ∷ lead.If ∷ lead.Else ∷ lead.End ∷ lead.BrTable ∷ lead.CallIndirect ∷ lead.Index Br ∷
    lead.Index BrIf ∷ lead.Index Call ∷ lead.Index LocalGet ∷ lead.Index LocalSet ∷ lead.Index LocalTee ∷ lead.Index GlobalGet ∷
    lead.Index GlobalSet ∷ []

-- memory and constants
abbrev pub memory_leads : List Lead
memory_leads =
    lead.Load I32Load ∷ lead.Load I64Load ∷ lead.Load I32Load8S ∷ lead.Load I32Load8U ∷ lead.Load I32Load16S ∷ lead.Load I32Load16U ∷
    lead.Load I64Load8S ∷ lead.Load I64Load8U ∷ lead.Load I64Load16S ∷ lead.Load I64Load16U ∷ lead.Load I64Load32S ∷
    lead.Load I64Load32U ∷ lead.Store I32Store ∷ lead.Store I64Store ∷ lead.Store I32Store8 ∷ lead.Store I32Store16 ∷
    lead.Store I64Store8 ∷ lead.Store I64Store16 ∷ lead.Store I64Store32 ∷ lead.MemorySize ∷ lead.MemoryGrow ∷ lead.I32Const ∷
    lead.I64Const ∷ []

-- operators on i32
abbrev pub i32_leads : List Lead
i32_leads =
    lead.Bare (simple.Test I32 Eqz) ∷ lead.Bare (simple.Compare I32 Eq) ∷ lead.Bare (simple.Compare I32 Ne) ∷ lead.Bare (simple.Compare I32 LtS) ∷
    lead.Bare (simple.Compare I32 LtU) ∷ lead.Bare (simple.Compare I32 GtS) ∷ lead.Bare (simple.Compare I32 GtU) ∷
    lead.Bare (simple.Compare I32 LeS) ∷ lead.Bare (simple.Compare I32 LeU) ∷ lead.Bare (simple.Compare I32 GeS) ∷
    lead.Bare (simple.Compare I32 GeU) ∷ lead.Bare (simple.Unary I32 Clz) ∷ lead.Bare (simple.Unary I32 Ctz) ∷ lead.Bare (simple.Unary I32 Popcnt) ∷
    lead.Bare (simple.Binary I32 Add) ∷ lead.Bare (simple.Binary I32 Sub) ∷ lead.Bare (simple.Binary I32 Mul) ∷ lead.Bare (simple.Binary I32 DivS) ∷
    lead.Bare (simple.Binary I32 DivU) ∷ lead.Bare (simple.Binary I32 RemS) ∷ lead.Bare (simple.Binary I32 RemU) ∷
    lead.Bare (simple.Binary I32 And) ∷ lead.Bare (simple.Binary I32 Or) ∷ lead.Bare (simple.Binary I32 Xor) ∷ lead.Bare (simple.Binary I32 Shl) ∷
    lead.Bare (simple.Binary I32 ShrS) ∷ lead.Bare (simple.Binary I32 ShrU) ∷ lead.Bare (simple.Binary I32 Rotl) ∷
    lead.Bare (simple.Binary I32 Rotr) ∷ []

-- operators on i64
abbrev pub i64_leads : List Lead
i64_leads =
    lead.Bare (simple.Test I64 Eqz) ∷ lead.Bare (simple.Compare I64 Eq) ∷ lead.Bare (simple.Compare I64 Ne) ∷ lead.Bare (simple.Compare I64 LtS) ∷
    lead.Bare (simple.Compare I64 LtU) ∷ lead.Bare (simple.Compare I64 GtS) ∷ lead.Bare (simple.Compare I64 GtU) ∷
    lead.Bare (simple.Compare I64 LeS) ∷ lead.Bare (simple.Compare I64 LeU) ∷ lead.Bare (simple.Compare I64 GeS) ∷
    lead.Bare (simple.Compare I64 GeU) ∷ lead.Bare (simple.Unary I64 Clz) ∷ lead.Bare (simple.Unary I64 Ctz) ∷ lead.Bare (simple.Unary I64 Popcnt) ∷
    lead.Bare (simple.Binary I64 Add) ∷ lead.Bare (simple.Binary I64 Sub) ∷ lead.Bare (simple.Binary I64 Mul) ∷ lead.Bare (simple.Binary I64 DivS) ∷
    lead.Bare (simple.Binary I64 DivU) ∷ lead.Bare (simple.Binary I64 RemS) ∷ lead.Bare (simple.Binary I64 RemU) ∷
    lead.Bare (simple.Binary I64 And) ∷ lead.Bare (simple.Binary I64 Or) ∷ lead.Bare (simple.Binary I64 Xor) ∷ lead.Bare (simple.Binary I64 Shl) ∷
    lead.Bare (simple.Binary I64 ShrS) ∷ lead.Bare (simple.Binary I64 ShrU) ∷ lead.Bare (simple.Binary I64 Rotl) ∷
    lead.Bare (simple.Binary I64 Rotr) ∷ []

-- conversions
abbrev pub convert_leads : List Lead
convert_leads =
    lead.Bare (simple.Convert I32WrapI64) ∷ lead.Bare (simple.Convert I64ExtendI32S) ∷ lead.Bare (simple.Convert I64ExtendI32U) ∷
    lead.Bare (simple.Convert I32Extend8S) ∷ lead.Bare (simple.Convert I32Extend16S) ∷ lead.Bare (simple.Convert I64Extend8S) ∷
    lead.Bare (simple.Convert I64Extend16S) ∷ lead.Bare (simple.Convert I64Extend32S) ∷ []

-- opcodes of floating-point instructions
abbrev pub is_float : ℕ → Bool
is_float b = (b == 0x2a) || (b == 0x2b) || (b == 0x38) || (b == 0x39) || (b == 0x43) || (b == 0x44)
    || (nat_le 0x5b b && nat_le b 0x66) || (nat_le 0x8b b && nat_le b 0xa6) || (nat_le 0xa8 b && nat_le b 0xab) || (nat_le 0xae b && nat_le b 0xbf)

-- the one that the byte begins, or else another
abbrev pub find_lead : List Lead → Lead → ℕ → Lead
find_lead [] other b = other
find_lead (l ∷ ls) other b = if b == code l then l else find_lead ls other b

-- what a byte begins
unfoldable pub lead_at : ℕ → Lead
lead_at b =
    if is_float b then lead.Float else
    find_lead control_leads (find_lead memory_leads (find_lead i32_leads (find_lead i64_leads (find_lead convert_leads lead.Unknown b) b) b) b) b

-- instructions without immediates
abbrev pub IsBare : Simple → Type 0
IsBare p = NoImmediates (immediates p)

-- what an opcode of the profile begins
abbrev pub IsLead : Lead → Type 0
IsLead (lead.Bare p) = IsBare p
IsLead lead.Float = ⊥
IsLead lead.Unknown = ⊥
IsLead l = Unit {0}
