-- The bytes of modules (Core 1.0, section 5.5), within the limits of the profile.
use Rattle.std.specs.Prelude.{◌≡◌, ℕ, ◌<◌, ◌≤◌, List, [], ◌∷◌, ◌++◌, length, replicate, Option, Some, None, option_to_list, Bool, true, false}
use Rattle.std.specs.Str.{IsUtf8}
use Rattle.wasm_types.specs.declared.types.ValType.{ValType}
use Rattle.wasm_types.specs.declared.types.Limits.{Limits}
use Rattle.wasm_types.specs.declared.types.GlobalType.{GlobalType}
use Rattle.wasm_types.specs.declared.module.ExportDesc.{ExportDesc}
use Rattle.wasm_types.specs.declared.module.ExportDesc.TheVariants as export
use Rattle.wasm_types.specs.declared.module.SectionId.{SectionId}
use Rattle.wasm_types.specs.declared.module.SectionId.TheVariants as section
use Rattle.wasm_types.specs.Syntax.{Instructions, Signature, ImportForm, FuncForm, GlobalForm, ExportForm, ElemForm, DataForm, ModuleForm}
use Rattle.wasm_types.specs.Leb128.{IsU32}
use Rattle.wasm_types.specs.Profile.{most_elements, most_locals, most_module_bytes, most_pages}
use Rattle.wasm_types.specs.Instructions.{Both, IsVec, Tagged, IsIndex, val_code, IsValType, IsExpr}

-- bytes with their number before them
abbrev pub IsBytes : List ℕ → List ℕ → Type 0
IsBytes xs text = (a : List ℕ) × IsU32 a (length xs) × (text ≡ a ++ xs)

abbrev pub IsName : List ℕ → List ℕ → Type 0
IsName xs text = IsUtf8 xs × IsBytes xs text

-- at most one
abbrev pub IsOption : {A : Type 0} → (A → List ℕ → Type 0) → Option A → List ℕ → Type 0
IsOption P o text = IsVec P (option_to_list o) text

abbrev pub IsFuncType : Signature → List ℕ → Type 0
IsFuncType s text = Tagged 0x60 (Both (IsVec IsValType) (IsOption IsValType)) (s.params, s.result) text

-- only functions are imported
abbrev pub IsImport : ImportForm → List ℕ → Type 0
IsImport i text = Both IsName (Both IsName (Tagged 0x00 IsIndex)) (i.from, (i.name, i.ty)) text

abbrev pub limits_text : Limits → Option ℕ → List ℕ → Type 0
limits_text l None text = Tagged 0x00 IsIndex l.min text
limits_text l (Some n) text = Tagged 0x01 (Both IsIndex IsIndex) (l.min, n) text

abbrev pub IsLimits : ℕ → Limits → List ℕ → Type 0
IsLimits most l text = (l.min ≤ most) × limits_text l l.max text

-- the size of a table at first, and that of a memory, are limited
abbrev pub IsTable : Limits → List ℕ → Type 0
IsTable l text = Tagged 0x70 (IsLimits most_elements) l text

abbrev pub IsMemory : Limits → List ℕ → Type 0
IsMemory l text = IsLimits most_pages l text

abbrev pub mut_code : Bool → ℕ
mut_code false = 0x00
mut_code true = 0x01

abbrev pub IsGlobalType : GlobalType → List ℕ → Type 0
IsGlobalType g text = text ≡ val_code g.value ∷ mut_code g.mutable ∷ []

abbrev pub IsGlobal : GlobalForm → List ℕ → Type 0
IsGlobal g text = Both IsGlobalType IsExpr (g.ty, g.init) text

abbrev pub IsExportDesc : ExportDesc → List ℕ → Type 0
IsExportDesc (export.Func n) text = Tagged 0x00 IsIndex n text
IsExportDesc (export.Table n) text = Tagged 0x01 IsIndex n text
IsExportDesc (export.Memory n) text = Tagged 0x02 IsIndex n text
IsExportDesc (export.Global n) text = Tagged 0x03 IsIndex n text

abbrev pub IsExport : ExportForm → List ℕ → Type 0
IsExport e text = Both IsName IsExportDesc (e.name, e.desc) text

abbrev pub IsElem : ElemForm → List ℕ → Type 0
IsElem e text = Both IsIndex (Both IsExpr (IsVec IsIndex)) (e.table, (e.offset, e.init)) text

abbrev pub IsData : DataForm → List ℕ → Type 0
IsData d text = Both IsIndex (Both IsExpr IsBytes) (d.memory, (d.offset, d.init)) text

-- locals are spelled as runs of one type; in all there are not too many
abbrev pub expanded : List (ℕ × ValType) → List ValType
expanded [] = []
expanded (r ∷ rs) = replicate r.0 r.1 ++ expanded rs

abbrev pub IsLocals : List ValType → List ℕ → Type 0
IsLocals ts text = (runs : List (ℕ × ValType)) × IsVec (Both IsIndex IsValType) runs text × (ts ≡ expanded runs) × (length ts ≤ most_locals)

pub record CodeForm : Type 0 where
  pub locals : List ValType
  pub body : Instructions

-- a function's code: its size, its locals, its body
abbrev pub IsCode : CodeForm → List ℕ → Type 0
IsCode c text = (a : List ℕ) × (b : List ℕ) × IsU32 a (length b) × Both IsLocals IsExpr (c.locals, c.body) b × (text ≡ a ++ b)

-- what the sections give; absent ones leave it empty
pub record Parts : Type 0 where
  pub types : List Signature
  pub imports : List ImportForm
  pub type_indices : List ℕ
  pub tables : List Limits
  pub memories : List Limits
  pub globals : List GlobalForm
  pub exports : List ExportForm
  pub start : Option ℕ
  pub elems : List ElemForm
  pub codes : List CodeForm
  pub data_segments : List DataForm

abbrev pub no_parts : Parts
no_parts = record {
  types = [];
  imports = [];
  type_indices = [];
  tables = [];
  memories = [];
  globals = [];
  exports = [];
  start = None;
  elems = [];
  codes = [];
  data_segments = [];
}

abbrev pub number : SectionId → ℕ
number section.Type = 1
number section.Import = 2
number section.Function = 3
number section.Table = 4
number section.Memory = 5
number section.Global = 6
number section.Export = 7
number section.Start = 8
number section.Element = 9
number section.Code = 10
number section.Data = 11

-- the contents of a section give one part; there are as many codes as functions
abbrev pub GivesPart : SectionId → List ℕ → Parts → Parts → Type 0
GivesPart section.Type text p q = (xs : List Signature) × IsVec IsFuncType xs text × (q ≡ record p { types = xs })
GivesPart section.Import text p q = (xs : List ImportForm) × IsVec IsImport xs text × (q ≡ record p { imports = xs })
GivesPart section.Function text p q = (xs : List ℕ) × IsVec IsIndex xs text × (q ≡ record p { type_indices = xs })
GivesPart section.Table text p q = (xs : List Limits) × IsVec IsTable xs text × (q ≡ record p { tables = xs })
GivesPart section.Memory text p q = (xs : List Limits) × IsVec IsMemory xs text × (q ≡ record p { memories = xs })
GivesPart section.Global text p q = (xs : List GlobalForm) × IsVec IsGlobal xs text × (q ≡ record p { globals = xs })
GivesPart section.Export text p q = (xs : List ExportForm) × IsVec IsExport xs text × (q ≡ record p { exports = xs })
GivesPart section.Start text p q = (x : ℕ) × IsIndex x text × (q ≡ record p { start = Some x })
GivesPart section.Element text p q = (xs : List ElemForm) × IsVec IsElem xs text × (q ≡ record p { elems = xs })
GivesPart section.Code text p q = (xs : List CodeForm) × IsVec IsCode xs text × (length xs ≡ length p.type_indices) × (q ≡ record p { codes = xs })
GivesPart section.Data text p q = (xs : List DataForm) × IsVec IsData xs text × (q ≡ record p { data_segments = xs })

-- a section: custom, of which only the name counts, or one that gives a part
pub data Section : Type 0 where
  Custom : (contents : List ℕ) → Section
  Known : SectionId → (contents : List ℕ) → Section

abbrev pub section_id : Section → ℕ
section_id (Custom c) = 0
section_id (Known k c) = number k

abbrev pub contents : Section → List ℕ
contents (Custom c) = c
contents (Known k c) = c

-- an id, the size of the contents, the contents
abbrev pub IsSection : Section → List ℕ → Type 0
IsSection s text = (size : List ℕ) × IsU32 size (length (contents s)) × (text ≡ section_id s ∷ size ++ contents s)

abbrev pub AreSections : List Section → List ℕ → Type 0
AreSections [] text = text ≡ []
AreSections (s ∷ ss) text = (a : List ℕ) × (b : List ℕ) × IsSection s a × AreSections ss b × (text ≡ a ++ b)

-- custom sections begin with a name and leave no trace
abbrev pub IsCustom : List ℕ → Type 0
IsCustom text = (name : List ℕ) × (a : List ℕ) × (rest : List ℕ) × IsName name a × (text ≡ a ++ rest)

-- the sections, whose ids increase from last on, add to p what q has
abbrev pub Give : List Section → ℕ → Parts → Parts → Type 0
Give [] last p q = q ≡ p
Give (Custom c ∷ ss) last p q = IsCustom c × Give ss last p q
Give (Known k c ∷ ss) last p q = (last < number k) × (r : Parts) × GivesPart k c p r × Give ss (number k) r q

-- functions from their types and codes
abbrev pub joined : List ℕ → List CodeForm → List FuncForm
joined [] cs = []
joined (t ∷ ts) [] = []
joined (t ∷ ts) (c ∷ cs) = record { ty = t; locals = c.locals; body = c.body } ∷ joined ts cs

abbrev pub module_of : Parts → ModuleForm
module_of p = record {
  types = p.types;
  imports = p.imports;
  funcs = joined p.type_indices p.codes;
  tables = p.tables;
  memories = p.memories;
  globals = p.globals;
  exports = p.exports;
  start = p.start;
  elems = p.elems;
  data_segments = p.data_segments;
}

-- "\0asm" and version 1
abbrev pub header : List ℕ
header = 0x00 ∷ 0x61 ∷ 0x73 ∷ 0x6d ∷ 0x01 ∷ 0x00 ∷ 0x00 ∷ 0x00 ∷ []

-- the bytes, which are not too many, are those of the module
pub record IsModule (bytes : List ℕ) (m : ModuleForm) : Type 0 where
  pub sections : List Section
  pub rest : List ℕ
  pub parts : Parts
  pub begins : bytes ≡ header ++ rest
  pub size : length bytes ≤ most_module_bytes
  pub spelled : AreSections sections rest
  pub gives : Give sections 0 no_parts parts
  pub counts : length parts.type_indices ≡ length parts.codes
  pub result : m ≡ module_of parts
