-- Which modules can be spelled at all, and which are within the limits.
use Rattle.std.specs.Prelude.{ℕ, ◌<◌, ◌≤◌, ◌^◌, Contains, length, Option, Some, None}
use Rattle.std.specs.List.{AllByRecursion}
use Rattle.std.specs.Str.{IsUtf8}
use Rattle.wasm_types.specs.declared.types.Limits.{Limits}
use Rattle.wasm_types.specs.declared.module.ExportDesc.{ExportDesc}
use Rattle.wasm_types.specs.declared.module.ExportDesc.TheVariants as export
use Rattle.wasm_types.specs.Syntax.{Instruction, Plain, BrTable, Block, Loop, If, Instructions, Done, Then, ImportForm, FuncForm, GlobalForm, ExportForm, ElemForm, DataForm, ModuleForm}
use Rattle.wasm_types.specs.Immediates.{Immediates, Nothing, Index, Memory, Bits32, Bits64, IndexReserved, Reserved, immediates}
use Rattle.wasm_types.specs.Instructions.{depths}
use Rattle.wasm_types.specs.Profile.{most_elements, most_locals, most_module_bytes, most_nesting, most_pages}
use Rattle.module_writer.specs.Size.{module_size}

-- ---- what has to fit its width

abbrev pub IsIndexed : ℕ → Type 0
IsIndexed n = n < 2 ^ 32

-- constants, and where memory is read and written
abbrev pub WordFits : Immediates → Type 0
WordFits (Memory m) = IsIndexed m.align × IsIndexed m.offset
WordFits (Bits32 n) = n < 2 ^ 32
WordFits (Bits64 n) = n < 2 ^ 64
WordFits _ = Unit {0}

abbrev mutual
  pub HasWords : Instruction → Type 0
  HasWords (Plain p) = WordFits (immediates p)
  HasWords (BrTable ns n) = Unit {0}
  HasWords (Block k is) = HaveWords is
  HasWords (Loop k is) = HaveWords is
  HasWords (If k is js) = HaveWords is × HaveWords js

  pub HaveWords : Instructions → Type 0
  HaveWords Done = Unit {0}
  HaveWords (Then i is) = HasWords i × HaveWords is

abbrev pub IsMost : Option ℕ → Type 0
IsMost None = Unit {0}
IsMost (Some n) = IsIndexed n

-- each constant of the module has its width, and each name is UTF-8; of all other numbers the typing rules say enough
pub record HoldsWords (m : ModuleForm) : Type 0 where
  pub imports : AllByRecursion (λ (i : ImportForm). IsUtf8 i.from × IsUtf8 i.name) m.imports
  pub tables : AllByRecursion (λ (l : Limits). IsMost l.max) m.tables
  pub globals : AllByRecursion (λ (g : GlobalForm). HaveWords g.init) m.globals
  pub exports : AllByRecursion (λ (e : ExportForm). IsUtf8 e.name) m.exports
  pub elems : AllByRecursion (λ (e : ElemForm). HaveWords e.offset) m.elems
  pub codes : AllByRecursion (λ (f : FuncForm). HaveWords f.body) m.funcs
  pub data_segments : AllByRecursion (λ (d : DataForm). HaveWords d.offset) m.data_segments

-- ---- limits

-- A module passes a limit: it has too many bytes, a function with too many locals or with too many blocks in one another, or a table with too many elements
-- or a memory with too many pages at first.
pub data PassesALimit (m : ModuleForm) : Type 0 where
  bytes : most_module_bytes < module_size m → PassesALimit m
  locals : (f : FuncForm) → Contains m.funcs f → most_locals < length f.locals → PassesALimit m
  blocks : (f : FuncForm) → Contains m.funcs f → most_nesting < depths f.body → PassesALimit m
  elements : (l : Limits) → Contains m.tables l → most_elements < l.min → PassesALimit m
  pages : (l : Limits) → Contains m.memories l → most_pages < l.min → PassesALimit m

-- The rest serves proofs: the same of every number.

abbrev pub CanBeSpelled : Immediates → Type 0
CanBeSpelled Nothing = Unit {0}
CanBeSpelled (Index n) = IsIndexed n
CanBeSpelled (Memory m) = IsIndexed m.align × IsIndexed m.offset
CanBeSpelled (Bits32 n) = n < 2 ^ 32
CanBeSpelled (Bits64 n) = n < 2 ^ 64
CanBeSpelled (IndexReserved n) = IsIndexed n
CanBeSpelled Reserved = Unit {0}

abbrev mutual
  pub HasNumbers : Instruction → Type 0
  HasNumbers (Plain p) = CanBeSpelled (immediates p)
  HasNumbers (BrTable ns n) = AllByRecursion IsIndexed ns × IsIndexed n
  HasNumbers (Block k is) = HaveNumbers is
  HasNumbers (Loop k is) = HaveNumbers is
  HasNumbers (If k is js) = HaveNumbers is × HaveNumbers js

  pub HaveNumbers : Instructions → Type 0
  HaveNumbers Done = Unit {0}
  HaveNumbers (Then i is) = HasNumbers i × HaveNumbers is

abbrev pub IsImportable : ImportForm → Type 0
IsImportable i = IsUtf8 i.from × (IsUtf8 i.name × IsIndexed i.ty)

abbrev pub IsDescribed : ExportDesc → Type 0
IsDescribed (export.Func n) = IsIndexed n
IsDescribed (export.Table n) = IsIndexed n
IsDescribed (export.Memory n) = IsIndexed n
IsDescribed (export.Global n) = IsIndexed n

-- every number of the module has its width, and every name is UTF-8
pub record IsSpellable (m : ModuleForm) : Type 0 where
  pub imports : AllByRecursion IsImportable m.imports
  pub types : AllByRecursion (λ (f : FuncForm). IsIndexed f.ty) m.funcs
  pub tables : AllByRecursion (λ (l : Limits). IsMost l.max) m.tables
  pub memories : AllByRecursion (λ (l : Limits). IsMost l.max) m.memories
  pub globals : AllByRecursion (λ (g : GlobalForm). HaveNumbers g.init) m.globals
  pub exports : AllByRecursion (λ (e : ExportForm). IsUtf8 e.name × IsDescribed e.desc) m.exports
  pub start : IsMost m.start
  pub elems : AllByRecursion (λ (e : ElemForm). IsIndexed e.table × (HaveNumbers e.offset × AllByRecursion IsIndexed e.init)) m.elems
  pub codes : AllByRecursion (λ (f : FuncForm). HaveNumbers f.body) m.funcs
  pub data_segments : AllByRecursion (λ (d : DataForm). IsIndexed d.memory × HaveNumbers d.offset) m.data_segments

abbrev pub IsShallow : Instructions → Type 0
IsShallow is = depths is ≤ most_nesting

pub record IsWithinLimits (m : ModuleForm) : Type 0 where
  pub size : module_size m ≤ most_module_bytes
  pub locals : AllByRecursion (λ (f : FuncForm). length f.locals ≤ most_locals) m.funcs
  pub bodies : AllByRecursion (λ (f : FuncForm). IsShallow f.body) m.funcs
  pub globals : AllByRecursion (λ (g : GlobalForm). IsShallow g.init) m.globals
  pub elems : AllByRecursion (λ (e : ElemForm). IsShallow e.offset) m.elems
  pub data_segments : AllByRecursion (λ (d : DataForm). IsShallow d.offset) m.data_segments
  pub tables : AllByRecursion (λ (l : Limits). l.min ≤ most_elements) m.tables
  pub memories : AllByRecursion (λ (l : Limits). l.min ≤ most_pages) m.memories
