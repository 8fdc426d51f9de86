-- How many places a run may take, and a bound on the sizes of a program's code under which they are fewer than the host's numbers.
use Rattle.std.specs.Prelude.{ℕ, suc, ◌+◌, ◌^◌, ◌≤◌, length, Option}
use Rattle.std.specs.List.{All}
use Rattle.wasm_types.specs.Syntax.{Instruction, Plain, BrTable, Block, Loop, If, Instructions, Done, Then}
use Rattle.wasm_types.specs.declared.types.ValType.{ValType}
use Rattle.mid_program.specs.Mid.{Program}
use Rattle.lower_model.specs.Functions.{texts_of}
use Rattle.lower_model.specs.Machine.{Callee}
use Rattle.lower_model.specs.Modules.{all_callees, globals_of}
use Rattle.lower_model.specs.Places.{memory_of}

-- how many instructions code has, those inside blocks too
abbrev mutual
  pub size : Instructions → ℕ
  size Done = 0
  size (Then i k) = suc (size_inside i + size k)

  pub size_inside : Instruction → ℕ
  size_inside (Plain p) = 0
  size_inside (BrTable ds d) = 0
  size_inside (Block r a) = size a
  size_inside (Loop r a) = size a
  size_inside (If r a b) = size a + size b

-- Parts of code: the whole, what comes after an instruction of a part, and what is inside one.
pub data IsPart (whole : Instructions) : Instructions → Type 0 where
  all : IsPart whole whole
  further : (i : Instruction) (c : Instructions) → IsPart whole (Then i c) → IsPart whole c
  in_block : (r : Option ValType) (a c : Instructions) → IsPart whole (Then (Block r a) c) → IsPart whole a
  in_loop : (r : Option ValType) (a c : Instructions) → IsPart whole (Then (Loop r a) c) → IsPart whole a
  where_true : (r : Option ValType) (a b c : Instructions) → IsPart whole (Then (If r a b) c) → IsPart whole a
  where_false : (r : Option ValType) (a b c : Instructions) → IsPart whole (Then (If r a b) c) → IsPart whole b

-- a function with so many parameters and other locals, and so many instructions, at most
pub record IsWithin (places instructions : ℕ) (f : Callee) : Type 0 where
  pub locals : length f.kinds + length f.locals ≤ places
  pub code : size f.body ≤ instructions

-- Each function has at most 100,000 parameters and other locals, and 2^29 instructions; there are at most 2^29 globals, and the texts take at most 4 GiB.
pub record IsSmall (p : Program) : Type 0 where
  pub functions : All (IsWithin 100000 (2 ^ 29)) (all_callees p)
  pub globals : length (globals_of p) ≤ 2 ^ 29
  pub texts : length (memory_of (texts_of p)) ≤ 2 ^ 32
