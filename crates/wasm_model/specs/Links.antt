-- A module's run begins: its imports are linked, its segments written, and the start function and `main` are called (Core 1.0, sections 4.5.4 and 4.5.5).
use Rattle.std.specs.Prelude.{ℕ, ◌≡◌, ◌≢◌, ◌+◌, ◌*◌, ◌≤◌, List, [], ◌∷◌, length, map, replicate, Option, Some, None, Bool, false, ◌&&◌, nat_eq, if◌then◌else◌}
use Rattle.std.specs.List.{All}
use Rattle.wasm_types.specs.declared.types.ValType.TheVariants as ty
use Rattle.wasm_types.specs.declared.types.Limits.{Limits}
use Rattle.wasm_types.specs.declared.instr.Simple.TheVariants.{Call}
use Rattle.wasm_types.specs.declared.module.ExportDesc.{ExportDesc}
use Rattle.wasm_types.specs.declared.module.ExportDesc.TheVariants as export
use Rattle.wasm_types.specs.Syntax.{Instructions, Done, Then, Plain, Signature, ImportForm, ExportForm, ElemForm, DataForm, ModuleForm}
use Rattle.wasm_types.specs.Typing.{callee_in, typed_in}
use Rattle.wasm_store.specs.declared.word.Word.{Word}
use Rattle.wasm_store.specs.declared.word.Word.TheVariants.{I32, I64}
use Rattle.wasm_store.specs.Memories.{MemoryForm, fresh, written}
use Rattle.wasm_store.specs.Tables.{with_functions}
use Rattle.wasm_model.specs.declared.fault.LinkFault.{LinkFault}
use Rattle.wasm_model.specs.declared.fault.LinkFault.TheVariants.{NoMain, BadImport, SegmentBounds, NoMemory}
use Rattle.wasm_model.specs.Frames.{constant_in}
use Rattle.wasm_model.specs.Hosts.{Finds}
use Rattle.wasm_model.specs.Machines.{Conf, agree}
use Rattle.wasm_model.specs.Runs.{MachineForm}

-- what a function makes of the first element for which it gives something
abbrev pub first_some : {A B : Type 0} → (A → Option B) → List A → Option B
first_some f [] = None
first_some f (x ∷ xs) = elim (f x) [ Some y ↦ Some y | None ↦ first_some f xs ]

-- the place of the first element that is missing
abbrev pub first_none : {A : Type 0} → List (Option A) → Option ℕ
first_none [] = None
first_none (None ∷ xs) = Some 0
first_none (Some x ∷ xs) = elim (first_none xs) [ None ↦ None | Some i ↦ Some (i + 1) ]

-- The function `main`: an exported function of this name, without parameters and with a 32-bit result.

-- the bytes of `main`
abbrev pub is_main_name : List ℕ → Bool
is_main_name (m ∷ (a ∷ (i ∷ (n ∷ [])))) = nat_eq m 109 && (nat_eq a 97 && (nat_eq i 105 && nat_eq n 110))
is_main_name _ = false

abbrev pub main_type : Signature
main_type = record { params = []; result = Some ty.I32 }

abbrev pub main_function : ModuleForm → ExportDesc → Option ℕ
main_function m (export.Func n) = if agree (Some main_type) (callee_in m n) then Some n else None
main_function m _ = None

abbrev pub main_at : ModuleForm → ExportForm → Option ℕ
main_at m e = if is_main_name e.name then main_function m e.desc else None

abbrev pub main_of : ModuleForm → Option ℕ
main_of m = first_some (main_at m) m.exports

-- The number of an import: the host has it, with the type that the module wants.

abbrev pub number_if : ModuleForm → ℕ → Option (ℕ × Signature) → Option ℕ
number_if m n None = None
number_if m n (Some r) = if agree (Some r.1) (typed_in m n) then Some r.0 else None

abbrev pub number_for : Finds → ModuleForm → ImportForm → Option ℕ
number_for F m x = number_if m x.ty (F x.from x.name)

abbrev pub numbers_for : Finds → ModuleForm → List (Option ℕ)
numbers_for F m = map (number_for F m) m.imports

-- Segments lie within the table and the memory as they are at first.

abbrev pub value_if : Option Word → Word
value_if None = I32 0
value_if (Some w) = w

-- the value of a constant expression
abbrev pub value_of : Instructions → Word
value_of code = value_if (constant_in code)

abbrev pub place_if : Word → ℕ
place_if (I32 n) = n
place_if (I64 n) = 0

abbrev pub place_of : Instructions → ℕ
place_of code = place_if (value_of code)

-- how many elements or pages the first one has at the beginning
abbrev pub least : List Limits → ℕ
least [] = 0
least (l ∷ ls) = l.min

abbrev pub ElemFits : ℕ → ElemForm → Type 0
ElemFits size e = place_of e.offset + length e.init ≤ size

abbrev pub DataFits : ℕ → DataForm → Type 0
DataFits size d = place_of d.offset + length d.init ≤ size

abbrev pub SegmentsFit : ModuleForm → Type 0
SegmentsFit m = All (ElemFits (least m.tables)) m.elems × All (DataFits (least m.memories * 65536)) m.data_segments

-- What each refusal says. They are told in this order.
abbrev pub Refuses : Finds → ModuleForm → LinkFault → Type 0
Refuses F m NoMain = main_of m ≡ None
Refuses F m (BadImport i) = (main_of m ≢ None) × (first_none (numbers_for F m) ≡ Some i)
Refuses F m SegmentBounds = (main_of m ≢ None) × (first_none (numbers_for F m) ≡ None) × (SegmentsFit m → ⊥)
Refuses F m NoMemory = Unit {0}

-- Where a run begins.

-- the segments are written one after the other
abbrev pub filled : List (Option ℕ) → List ElemForm → List (Option ℕ)
filled t [] = t
filled t (e ∷ es) = filled (with_functions t (place_of e.offset) e.init) es

abbrev pub poured : MemoryForm → List DataForm → MemoryForm
poured m [] = m
poured m (d ∷ ds) = poured (record m { bytes = written m.bytes (place_of d.offset) d.init }) ds

-- a module without memory has one of no pages, which never grows
abbrev pub limits_or_none : List Limits → Limits
limits_or_none [] = record { min = 0; max = Some 0 }
limits_or_none (l ∷ ls) = l

-- the calls that make up a run, in the first frame, which is no function's
abbrev pub entry_code : Option ℕ → ℕ → Instructions
entry_code None n = Then (Plain (Call n)) Done
entry_code (Some s) n = Then (Plain (Call s)) (Then (Plain (Call n)) Done)

abbrev pub beginning : ModuleForm → ℕ → Conf
beginning m n = record {
  frame = record { values = []; labels = []; locals = []; code = entry_code m.start n };
  result = Some ty.I32;
  callers = [];
  memory = poured (fresh (limits_or_none m.memories)) m.data_segments;
  table = filled (replicate (least m.tables) None) m.elems;
  globals = map (λ g. value_of g.init) m.globals;
}

-- a machine that has not begun, of a module that is linked
pub record IsNew (F : Finds) (m : ModuleForm) (a : MachineForm) : Type 0 where
  pub main : ℕ
  pub main_is : main_of m ≡ Some main
  pub whole : a.program.whole ≡ m
  pub linked : numbers_for F m ≡ map Some a.program.numbers
  pub fit : SegmentsFit m
  pub conf : a.conf ≡ beginning m main
  pub ended : a.ended ≡ None
