-- The first byte of each instruction, by cases. OpcodeTable has them in rows.
use Rattle.std.specs.Prelude.{ℕ}
use Rattle.wasm_types.specs.declared.types.ValType.{ValType}
use Rattle.wasm_types.specs.declared.types.ValType.TheVariants.{I32, I64}
use Rattle.wasm_types.specs.declared.instr.ITestOp.{ITestOp}
use Rattle.wasm_types.specs.declared.instr.ITestOp.TheVariants.{Eqz}
use Rattle.wasm_types.specs.declared.instr.IRelOp.{IRelOp}
use Rattle.wasm_types.specs.declared.instr.IRelOp.TheVariants.{Eq, Ne, LtS, LtU, GtS, GtU, LeS, LeU, GeS, GeU}
use Rattle.wasm_types.specs.declared.instr.IUnOp.{IUnOp}
use Rattle.wasm_types.specs.declared.instr.IUnOp.TheVariants.{Clz, Ctz, Popcnt}
use Rattle.wasm_types.specs.declared.instr.IBinOp.{IBinOp}
use Rattle.wasm_types.specs.declared.instr.IBinOp.TheVariants.{Add, Sub, Mul, DivS, DivU, RemS, RemU, And, Or, Xor, Shl, ShrS, ShrU, Rotl, Rotr}
use Rattle.wasm_types.specs.declared.instr.CvtOp.{CvtOp}
use Rattle.wasm_types.specs.declared.instr.CvtOp.TheVariants.{I32WrapI64, I64ExtendI32S, I64ExtendI32U, I32Extend8S, I32Extend16S, I64Extend8S, I64Extend16S, I64Extend32S}
use Rattle.wasm_types.specs.declared.instr.LoadOp.{LoadOp}
use Rattle.wasm_types.specs.declared.instr.LoadOp.TheVariants.{I32Load, I64Load, I32Load8S, I32Load8U, I32Load16S, I32Load16U, I64Load8S, I64Load8U, I64Load16S, I64Load16U, I64Load32S, I64Load32U}
use Rattle.wasm_types.specs.declared.instr.StoreOp.{StoreOp}
use Rattle.wasm_types.specs.declared.instr.StoreOp.TheVariants.{I32Store, I64Store, I32Store8, I32Store16, I64Store8, I64Store16, I64Store32}
use Rattle.wasm_types.specs.declared.instr.Simple.{Simple}
use Rattle.wasm_types.specs.declared.instr.Simple.TheVariants as simple
use Rattle.wasm_types.specs.declared.opcodes.IndexOp.{IndexOp}
use Rattle.wasm_types.specs.declared.opcodes.IndexOp.TheVariants.{Br, BrIf, Call, LocalGet, LocalSet, LocalTee, GlobalGet, GlobalSet}

abbrev pub test_opcode : ValType → ITestOp → ℕ
test_opcode I32 Eqz = 0x45
test_opcode I64 Eqz = 0x50

abbrev pub compare_opcode : ValType → IRelOp → ℕ
compare_opcode I32 Eq = 0x46
compare_opcode I32 Ne = 0x47
compare_opcode I32 LtS = 0x48
compare_opcode I32 LtU = 0x49
compare_opcode I32 GtS = 0x4a
compare_opcode I32 GtU = 0x4b
compare_opcode I32 LeS = 0x4c
compare_opcode I32 LeU = 0x4d
compare_opcode I32 GeS = 0x4e
compare_opcode I32 GeU = 0x4f
compare_opcode I64 Eq = 0x51
compare_opcode I64 Ne = 0x52
compare_opcode I64 LtS = 0x53
compare_opcode I64 LtU = 0x54
compare_opcode I64 GtS = 0x55
compare_opcode I64 GtU = 0x56
compare_opcode I64 LeS = 0x57
compare_opcode I64 LeU = 0x58
compare_opcode I64 GeS = 0x59
compare_opcode I64 GeU = 0x5a

abbrev pub unary_opcode : ValType → IUnOp → ℕ
unary_opcode I32 Clz = 0x67
unary_opcode I32 Ctz = 0x68
unary_opcode I32 Popcnt = 0x69
unary_opcode I64 Clz = 0x79
unary_opcode I64 Ctz = 0x7a
unary_opcode I64 Popcnt = 0x7b

abbrev pub binary_opcode : ValType → IBinOp → ℕ
binary_opcode I32 Add = 0x6a
binary_opcode I32 Sub = 0x6b
binary_opcode I32 Mul = 0x6c
binary_opcode I32 DivS = 0x6d
binary_opcode I32 DivU = 0x6e
binary_opcode I32 RemS = 0x6f
binary_opcode I32 RemU = 0x70
binary_opcode I32 And = 0x71
binary_opcode I32 Or = 0x72
binary_opcode I32 Xor = 0x73
binary_opcode I32 Shl = 0x74
binary_opcode I32 ShrS = 0x75
binary_opcode I32 ShrU = 0x76
binary_opcode I32 Rotl = 0x77
binary_opcode I32 Rotr = 0x78
binary_opcode I64 Add = 0x7c
binary_opcode I64 Sub = 0x7d
binary_opcode I64 Mul = 0x7e
binary_opcode I64 DivS = 0x7f
binary_opcode I64 DivU = 0x80
binary_opcode I64 RemS = 0x81
binary_opcode I64 RemU = 0x82
binary_opcode I64 And = 0x83
binary_opcode I64 Or = 0x84
binary_opcode I64 Xor = 0x85
binary_opcode I64 Shl = 0x86
binary_opcode I64 ShrS = 0x87
binary_opcode I64 ShrU = 0x88
binary_opcode I64 Rotl = 0x89
binary_opcode I64 Rotr = 0x8a

abbrev pub convert_opcode : CvtOp → ℕ
convert_opcode I32WrapI64 = 0xa7
convert_opcode I64ExtendI32S = 0xac
convert_opcode I64ExtendI32U = 0xad
convert_opcode I32Extend8S = 0xc0
convert_opcode I32Extend16S = 0xc1
convert_opcode I64Extend8S = 0xc2
convert_opcode I64Extend16S = 0xc3
convert_opcode I64Extend32S = 0xc4

abbrev pub load_opcode : LoadOp → ℕ
load_opcode I32Load = 0x28
load_opcode I64Load = 0x29
load_opcode I32Load8S = 0x2c
load_opcode I32Load8U = 0x2d
load_opcode I32Load16S = 0x2e
load_opcode I32Load16U = 0x2f
load_opcode I64Load8S = 0x30
load_opcode I64Load8U = 0x31
load_opcode I64Load16S = 0x32
load_opcode I64Load16U = 0x33
load_opcode I64Load32S = 0x34
load_opcode I64Load32U = 0x35

abbrev pub store_opcode : StoreOp → ℕ
store_opcode I32Store = 0x36
store_opcode I64Store = 0x37
store_opcode I32Store8 = 0x3a
store_opcode I32Store16 = 0x3b
store_opcode I64Store8 = 0x3c
store_opcode I64Store16 = 0x3d
store_opcode I64Store32 = 0x3e

abbrev pub index_opcode : IndexOp → ℕ
index_opcode Br = 0x0c
index_opcode BrIf = 0x0d
index_opcode Call = 0x10
index_opcode LocalGet = 0x20
index_opcode LocalSet = 0x21
index_opcode LocalTee = 0x22
index_opcode GlobalGet = 0x23
index_opcode GlobalSet = 0x24

-- the opcode of an instruction without a body and without a list
abbrev pub opcode : Simple → ℕ
opcode simple.Unreachable = 0x00
opcode simple.Nop = 0x01
opcode simple.Return = 0x0f
opcode simple.Drop = 0x1a
opcode simple.Select = 0x1b
opcode (simple.Br n) = index_opcode Br
opcode (simple.BrIf n) = index_opcode BrIf
opcode (simple.Call n) = index_opcode Call
opcode (simple.LocalGet n) = index_opcode LocalGet
opcode (simple.LocalSet n) = index_opcode LocalSet
opcode (simple.LocalTee n) = index_opcode LocalTee
opcode (simple.GlobalGet n) = index_opcode GlobalGet
opcode (simple.GlobalSet n) = index_opcode GlobalSet
opcode (simple.CallIndirect n) = 0x11
opcode (simple.Load op m) = load_opcode op
opcode (simple.Store op m) = store_opcode op
opcode simple.MemorySize = 0x3f
opcode simple.MemoryGrow = 0x40
opcode (simple.I32Const n) = 0x41
opcode (simple.I64Const n) = 0x42
opcode (simple.Test t op) = test_opcode t op
opcode (simple.Compare t op) = compare_opcode t op
opcode (simple.Unary t op) = unary_opcode t op
opcode (simple.Binary t op) = binary_opcode t op
opcode (simple.Convert op) = convert_opcode op
