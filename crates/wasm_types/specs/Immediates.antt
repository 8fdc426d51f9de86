-- What stands behind the opcode of an instruction (Core 1.0, section 5.4).
use Rattle.std.specs.Prelude.{ℕ}
use Rattle.wasm_types.specs.declared.instr.MemArg.{MemArg}
use Rattle.wasm_types.specs.declared.instr.Simple.{Simple}
use Rattle.wasm_types.specs.declared.instr.Simple.TheVariants as simple

-- what stands behind the opcode
pub data Immediates : Type 0 where
  Nothing : Immediates
  Index : ℕ → Immediates
  Memory : MemArg → Immediates
  Bits32 Bits64 IndexReserved : ℕ → Immediates
  Reserved : Immediates

abbrev pub immediates : Simple → Immediates
immediates (simple.Br n) = Index n
immediates (simple.BrIf n) = Index n
immediates (simple.Call n) = Index n
immediates (simple.LocalGet n) = Index n
immediates (simple.LocalSet n) = Index n
immediates (simple.LocalTee n) = Index n
immediates (simple.GlobalGet n) = Index n
immediates (simple.GlobalSet n) = Index n
immediates (simple.CallIndirect n) = IndexReserved n
immediates (simple.Load op m) = Memory m
immediates (simple.Store op m) = Memory m
immediates simple.MemorySize = Reserved
immediates simple.MemoryGrow = Reserved
immediates (simple.I32Const n) = Bits32 n
immediates (simple.I64Const n) = Bits64 n
immediates _ = Nothing
