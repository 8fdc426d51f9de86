-- What each refusal of a module says.
use Rattle.std.specs.Prelude.{ℕ, ◌≡◌, ◌+◌, ◌-◌, ◌^◌, ◌≤◌, ◌<◌, length, Option, Some, None, is_none, slice_get, Bool, true, false, not, ◌||◌, nat_le}
use Rattle.std.specs.List.{list_any}
use Rattle.wasm_types.specs.declared.instr.Simple.TheVariants.{Br, BrIf, Call, CallIndirect, LocalGet, LocalSet, LocalTee, GlobalGet, GlobalSet, Load, Store, MemorySize, MemoryGrow}
use Rattle.wasm_types.specs.Syntax.{Instruction, Plain, BrTable, Block, Loop, If, Instructions, Done, Then, Signature, FuncForm, ModuleForm}
use Rattle.wasm_types.specs.Typing.{Context, FuncOk, LevelOk, context_in, loaded, stored, typed_in}
use Rattle.module_validator.specs.declared.causes.Cause.{Cause}
use Rattle.module_validator.specs.declared.causes.Cause.TheVariants.{Index, Align}
use Rattle.module_validator.specs.declared.valid.InvalidFault.{InvalidFault}
use Rattle.module_validator.specs.declared.valid.InvalidFault.TheVariants.{BadIndex, BadType, BadAlign, BadModule, NoMemory}

-- an instruction within so many labels that names something which is not there
abbrev pub lacks : Context → ℕ → Instruction → Bool
lacks C labels (Plain (Br n)) = nat_le labels n
lacks C labels (Plain (BrIf n)) = nat_le labels n
lacks C labels (BrTable ns n) = list_any (nat_le labels) ns || nat_le labels n
lacks C labels (Plain (Call n)) = is_none (C.callee n)
lacks C labels (Plain (CallIndirect n)) = not C.table || is_none (C.typed n)
lacks C labels (Plain (LocalGet x)) = nat_le (length C.locals) x
lacks C labels (Plain (LocalSet x)) = nat_le (length C.locals) x
lacks C labels (Plain (LocalTee x)) = nat_le (length C.locals) x
lacks C labels (Plain (GlobalGet x)) = nat_le (length C.globals) x
lacks C labels (Plain (GlobalSet x)) = nat_le (length C.globals) x
lacks C labels (Plain (Load op m)) = not C.memory
lacks C labels (Plain (Store op m)) = not C.memory
lacks C labels (Plain MemorySize) = not C.memory
lacks C labels (Plain MemoryGrow) = not C.memory
lacks C labels i = false

-- an access whose alignment is larger than what it moves
abbrev pub overaligned : Instruction → Bool
overaligned (Plain (Load op m)) = not (nat_le (2 ^ m.align) (loaded op).1)
overaligned (Plain (Store op m)) = not (nat_le (2 ^ m.align) (stored op).1)
overaligned i = false

abbrev pub faulty : Context → Cause → ℕ → Instruction → Bool
faulty C Index labels i = lacks C labels i
faulty C Align labels i = overaligned i

-- whether there is such an instruction, within so many labels
abbrev mutual
  pub any_of : (ℕ → Instruction → Bool) → ℕ → Instruction → Bool
  any_of P labels (Plain p) = P labels (Plain p)
  any_of P labels (BrTable ns n) = P labels (BrTable ns n)
  any_of P labels (Block k is) = any_in P (labels + 1) is
  any_of P labels (Loop k is) = any_in P (labels + 1) is
  any_of P labels (If k is js) = any_in P (labels + 1) is || any_in P (labels + 1) js

  pub any_in : (ℕ → Instruction → Bool) → ℕ → Instructions → Bool
  any_in P labels Done = false
  any_in P labels (Then i is) = any_of P labels i || any_in P labels is

abbrev pub named : Bool → Bool → ℕ → InvalidFault
named true over n = BadIndex n
named false true n = BadAlign n
named false false n = BadType n

abbrev pub name_by : ModuleForm → FuncForm → ℕ → Option Signature → InvalidFault
name_by m f n None = BadIndex n
name_by m f n (Some t) = let C = context_in m t f.locals in named (any_in (faulty C Index) 1 f.body) (any_in (faulty C Align) 1 f.body) n

-- What is told of a function that is not typed: an index that is not there, if it has one; else an alignment, if it has one that is too large;
-- else its types, since all that it names is there.
abbrev pub name_of : ModuleForm → FuncForm → ℕ → InvalidFault
name_of m f n = name_by m f n (typed_in m f.ty)

abbrev pub Untypes : ModuleForm → FuncForm → ℕ → InvalidFault → Type 0
Untypes m f n NoMemory = Unit {0}
Untypes m f n BadModule = ⊥
Untypes m f n e = (FuncOk m f → ⊥) × (e ≡ name_of m f n)

-- the function of this index, imported ones counted first, is the first one that is not typed, and this is what is told of it
pub record IsUntyped (m : ModuleForm) (function : ℕ) (fault : InvalidFault) : Type 0 where
  pub func : FuncForm
  pub own : length m.imports ≤ function
  pub there : slice_get m.funcs (function - length m.imports) ≡ Some func
  pub untyped : FuncOk m func → ⊥
  pub told : fault ≡ name_of m func function
  pub first : (k : ℕ) (f : FuncForm) → k < function - length m.imports → slice_get m.funcs k ≡ Some f → FuncOk m f

abbrev pub Refuses : ModuleForm → InvalidFault → Type 0
Refuses m BadModule = LevelOk m → ⊥
Refuses m NoMemory = Unit {0}
Refuses m e = (n : ℕ) × IsUntyped m n e
