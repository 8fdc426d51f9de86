-- How many bytes emitted code takes.
use Rattle.std.specs.Prelude.{ℕ, zero, suc, ◌+◌, ◌/◌, ◌-◌, ◌^◌, nat_lt, if◌then◌else◌, List, [], ◌∷◌}
use Rattle.wasm_types.specs.Syntax.{Instruction, Plain, BrTable, Block, Loop, If, Instructions, Done, Then, FuncForm, ModuleForm}
use Rattle.wasm_types.specs.declared.instr.Simple.{Simple}
use Rattle.wasm_types.specs.declared.instr.Simple.TheVariants.{Br, BrIf, Call, LocalGet, LocalSet, LocalTee, GlobalGet, GlobalSet, I32Const, I64Const}
use Rattle.mid_program.specs.Mid.{Step, Steps, NoStep, Then as AndThen}

-- seven bits to a byte, of at most ten
abbrev groups : (most : ℕ) → ℕ → ℕ
groups zero n = 1
groups (suc most) n = if nat_lt n 128 then 1 else suc (groups most (n / 128))

-- of a signed integer, by its bits in two's complement: the last byte has a bit for the sign
abbrev signed_groups : (half : ℕ) → ℕ → ℕ
signed_groups half n = if nat_lt n half then groups 10 (n + n) else groups 10 ((half + half - n - 1) + (half + half - n - 1))

abbrev simple_size : Simple → ℕ
simple_size (Br d) = 1 + groups 10 d
simple_size (BrIf d) = 1 + groups 10 d
simple_size (Call n) = 1 + groups 10 n
simple_size (LocalGet x) = 1 + groups 10 x
simple_size (LocalSet x) = 1 + groups 10 x
simple_size (LocalTee x) = 1 + groups 10 x
simple_size (GlobalGet x) = 1 + groups 10 x
simple_size (GlobalSet x) = 1 + groups 10 x
simple_size (I32Const n) = 1 + signed_groups (2 ^ 31) n
simple_size (I64Const n) = 1 + signed_groups (2 ^ 63) n
simple_size p = 1

abbrev mutual
  pub code_size : Instructions → ℕ
  code_size Done = 0
  code_size (Then i k) = one_size i + code_size k

  pub one_size : Instruction → ℕ
  one_size (Plain p) = simple_size p
  one_size (BrTable ds d) = 0
  one_size (Block r a) = 3 + code_size a
  one_size (Loop r a) = 3 + code_size a
  one_size (If r a b) = 4 + (code_size a + code_size b)

abbrev sum_of : List FuncForm → ℕ
sum_of [] = 0
sum_of (f ∷ fs) = code_size f.body + sum_of fs

-- of all functions of a module
abbrev pub module_size : ModuleForm → ℕ
module_size m = sum_of m.funcs

-- a step so many times
abbrev pub times : ℕ → Step → Steps
times zero s = NoStep
times (suc n) s = AndThen s (times n s)
