-- The first bytes of instructions (Core 1.0, section 5.4; sign extension: Core 2.0). The instructions of a row begin with the row's number, the next one, and
-- so on. `opcode` says the same by cases.
use Rattle.std.specs.Prelude.{◌≡◌, ℕ, zero, suc, ◌+◌, List, [], ◌∷◌, ◌++◌, length, map, refl}
use Rattle.wasm_types.specs.declared.types.ValType.TheVariants.{I32, I64}
use Rattle.wasm_types.specs.declared.instr.ITestOp.TheVariants.{Eqz}
use Rattle.wasm_types.specs.declared.instr.IRelOp.{IRelOp}
use Rattle.wasm_types.specs.declared.instr.IRelOp.TheVariants.{Eq, Ne, LtS, LtU, GtS, GtU, LeS, LeU, GeS, GeU}
use Rattle.wasm_types.specs.declared.instr.IUnOp.{IUnOp}
use Rattle.wasm_types.specs.declared.instr.IUnOp.TheVariants.{Clz, Ctz, Popcnt}
use Rattle.wasm_types.specs.declared.instr.IBinOp.{IBinOp}
use Rattle.wasm_types.specs.declared.instr.IBinOp.TheVariants.{Add, Sub, Mul, DivS, DivU, RemS, RemU, And, Or, Xor, Shl, ShrS, ShrU, Rotl, Rotr}
use Rattle.wasm_types.specs.declared.instr.CvtOp.{CvtOp}
use Rattle.wasm_types.specs.declared.instr.CvtOp.TheVariants.{I32WrapI64, I64ExtendI32S, I64ExtendI32U, I32Extend8S, I32Extend16S, I64Extend8S, I64Extend16S, I64Extend32S}
use Rattle.wasm_types.specs.declared.instr.LoadOp.{LoadOp}
use Rattle.wasm_types.specs.declared.instr.LoadOp.TheVariants.{I32Load, I64Load, I32Load8S, I32Load8U, I32Load16S, I32Load16U, I64Load8S, I64Load8U, I64Load16S, I64Load16U, I64Load32S, I64Load32U}
use Rattle.wasm_types.specs.declared.instr.StoreOp.{StoreOp}
use Rattle.wasm_types.specs.declared.instr.StoreOp.TheVariants.{I32Store, I64Store, I32Store8, I32Store16, I64Store8, I64Store16, I64Store32}
use Rattle.wasm_types.specs.declared.instr.MemArg.{MemArg}
use Rattle.wasm_types.specs.declared.instr.Simple.{Simple}
use Rattle.wasm_types.specs.declared.instr.Simple.TheVariants.{Unreachable, Nop, Br, BrIf, Return, Call, CallIndirect, Drop, Select, LocalGet, LocalSet, LocalTee, GlobalGet, GlobalSet, Load, Store, MemorySize, MemoryGrow, I32Const, I64Const, Test, Compare, Unary, Binary, Convert}
use Rattle.wasm_types.specs.Opcodes.{opcode}

abbrev pub compares : List IRelOp
compares = Eq ∷ Ne ∷ LtS ∷ LtU ∷ GtS ∷ GtU ∷ LeS ∷ LeU ∷ GeS ∷ GeU ∷ []

abbrev pub unaries : List IUnOp
unaries = Clz ∷ Ctz ∷ Popcnt ∷ []

abbrev pub binaries : List IBinOp
binaries = Add ∷ Sub ∷ Mul ∷ DivS ∷ DivU ∷ RemS ∷ RemU ∷ And ∷ Or ∷ Xor ∷ Shl ∷ ShrS ∷ ShrU ∷ Rotl ∷ Rotr ∷ []

abbrev pub narrow_loads : List LoadOp
narrow_loads =
    I32Load8S ∷ I32Load8U ∷ I32Load16S ∷ I32Load16U ∷ I64Load8S ∷ I64Load8U ∷ I64Load16S ∷ I64Load16U ∷ I64Load32S ∷ I64Load32U ∷ []

abbrev pub narrow_stores : List StoreOp
narrow_stores = I32Store8 ∷ I32Store16 ∷ I64Store8 ∷ I64Store16 ∷ I64Store32 ∷ []

abbrev pub extensions : List CvtOp
extensions = I32Extend8S ∷ I32Extend16S ∷ I64Extend8S ∷ I64Extend16S ∷ I64Extend32S ∷ []

-- whatever their index or constant is, and where they access memory
abbrev pub rows : ℕ → MemArg → List (ℕ × List Simple)
rows n m =
    (0x00, Unreachable ∷ Nop ∷ []) ∷ (0x0c, Br n ∷ BrIf n ∷ []) ∷ (0x0f, Return ∷ Call n ∷ CallIndirect n ∷ []) ∷ (0x1a, Drop ∷ Select ∷ [])
    ∷ (0x20, LocalGet n ∷ LocalSet n ∷ LocalTee n ∷ GlobalGet n ∷ GlobalSet n ∷ []) ∷ (0x28, Load I32Load m ∷ Load I64Load m ∷ [])
    ∷ (0x2c, map (λ f. Load f m) narrow_loads ++ Store I32Store m ∷ Store I64Store m ∷ [])
    ∷ (0x3a, map (λ f. Store f m) narrow_stores ++ MemorySize ∷ MemoryGrow ∷ I32Const n ∷ I64Const n ∷ [])
    ∷ (0x45, Test I32 Eqz ∷ map (Compare I32) compares) ∷ (0x50, Test I64 Eqz ∷ map (Compare I64) compares)
    ∷ (0x67, map (Unary I32) unaries ++ map (Binary I32) binaries) ∷ (0x79, map (Unary I64) unaries ++ map (Binary I64) binaries)
    ∷ (0xa7, Convert I32WrapI64 ∷ []) ∷ (0xac, Convert I64ExtendI32S ∷ Convert I64ExtendI32U ∷ []) ∷ (0xc0, map Convert extensions) ∷ []

-- so many numbers, from one on
abbrev pub numbers_from : ℕ → ℕ → List ℕ
numbers_from b zero = []
numbers_from b (suc k) = b ∷ numbers_from (b + 1) k

pub opcodes_are : (n : ℕ) (m : MemArg) → map (λ r. map opcode r.1) (rows n m) ≡ map (λ r. numbers_from r.0 (length r.1)) (rows n m)
opcodes_are n m = refl
