-- Sections are written as they are spelled, in the fewest bytes.
use Rattle.std.proofs.Common.{◌≡◌, ℕ, List, [], ◌∷◌, ◌++◌, length, map, Option, Some, None, ◌⊎◌, inl, inr, refl, sym, ap, ◌∙◌, arith, length-append}
use Rattle.std.proofs.lemmas.List.{append-nil}
use Rattle.wasm_types.specs.declared.module.SectionId.{SectionId}
use Rattle.wasm_types.specs.declared.module.SectionId.TheVariants as section
use Rattle.wasm_types.specs.Syntax.{ModuleForm}
use Rattle.wasm_types.specs.Instructions.{IsVec, IsIndex}
use Rattle.wasm_types.specs.ModuleGrammar.{IsFuncType, IsImport, IsTable, IsMemory, IsGlobal, IsExport, IsElem, IsData, IsCode, Parts, number, Known, IsSection}
use Rattle.module_writer.specs.Writers.{Written, byte_to, index_to, vec_to, bytes_to}
use Rattle.module_writer.specs.Writing.{func_type_to, import_to, type_index_to, table_type_to, limits_to, global_to, export_to, elem_to, code_to, data_to, section_to, vec_section_to, start_to, from_types_to, from_imports_to, from_functions_to, from_table_to, from_memory_to, from_globals_to, from_exports_to, from_start_to, from_elems_to, from_codes_to, from_data_to}
use Rattle.module_writer.proofs.Meets.{Meets, Follow, Sized, then_meets, as_form, byte_meets, index_meets, vec_meets, sized_meets}
use Rattle.module_writer.proofs.PartLaws.{func_type_meets, import_meets, table_type_meets, memory_type_meets, global_meets, export_meets, elem_meets, data_meets, code_form, type_indices_meet, codes_meet}

-- a section with such contents
abbrev pub InSection : SectionId → (List ℕ → Type 0) → List ℕ → Type 0
InSection k P text = (c : List ℕ) × P c × IsSection (Known k c) text

-- or none, where there is nothing to tell
abbrev pub PartSection : Type 0 → SectionId → (List ℕ → Type 0) → List ℕ → Type 0
PartSection Nothing k P text = (Nothing × (text ≡ [])) ⊎ InSection k P text

section_meets : (k : SectionId) (P : List ℕ → Type 0) (contents : Written) → Meets P [] contents → (old : List ℕ) → Meets (InSection k P) old (section_to k contents old)
section_meets k P None h old = λ other g.
    let m = h g.0 g.1 in
    let e = ap length g.2.2 in
    let l = length-append (number k ∷ g.2.0) g.0 in
    omega (arith, m, e, l)
section_meets k P (Some xs) h old = as_form (Follow (λ t. t ≡ number k ∷ []) (Sized P)) (InSection k P) old (section_to k (Some xs) old)
    (λ t f. (f.3.1, f.3.3, (f.3.0, f.3.2, f.4 ∙ ap (λ (u : List ℕ). u ++ f.1) f.2 ∙ ap (λ (u : List ℕ). number k ∷ u) f.3.4)))
    (λ t f. (number k ∷ [], f.2.0 ++ f.0, refl, (f.2.0, f.0, f.2.1, f.1, refl), f.2.2))
    (then_meets (λ t. t ≡ number k ∷ []) (Sized P) old (byte_to (number k) old) (bytes_to xs) (byte_meets (number k) old) (λ o. sized_meets P (Some xs) h o))

present : (N : Type 0) (k : SectionId) (P : List ℕ → Type 0) (contents : Written) → (N → ⊥) → Meets P [] contents → (old : List ℕ) → Meets (PartSection N k P) old (section_to k contents old)
present N k P contents never h old = as_form (InSection k P) (PartSection N k P) old (section_to k contents old) (λ t f. inr f) (λ t f. elim f [ inl g ↦ absurd (never g.0) | inr g ↦ g ]) (section_meets k P contents h old)

absent : (N : Type 0) (k : SectionId) (P : List ℕ → Type 0) → N → (old : List ℕ) → Meets (PartSection N k P) old (Some old)
absent N k P n old = record { text = []; is = inl (n, refl); least = λ other h. omega arith; behind = sym (append-nil old) }

some_list : {A : Type 0} (x : A) (xs : List A) → x ∷ xs ≡ [] → ⊥
some_list x xs e = absurd cc

some_one : {A : Type 0} (x : A) (o : Option A) → o ≡ Some x → o ≡ None → ⊥
some_one x o e f = absurd cc

vec_section_meets : {A : Type 0} (k : SectionId) (p : A → List ℕ → Written) (xs : List A) (N : Type 0) (P : List ℕ → Type 0) → (xs ≡ [] → N) → (N → xs ≡ []) → Meets P [] (vec_to p xs []) → (old : List ℕ) → Meets (PartSection N k P) old (vec_section_to k p xs old)
vec_section_meets k p [] N P f g h old = absent N k P (f refl) old
vec_section_meets k p (x ∷ xs) N P f g h old = present N k P (vec_to p (x ∷ xs) []) (λ n. some_list x xs (g n)) h old

-- ---- the sections of parts

abbrev pub IsStart : Option ℕ → List ℕ → Type 0
IsStart o text = (n : ℕ) × IsIndex n text × (o ≡ Some n)

some_is : {A : Type 0} (x y : A) → Some x ≡ Some y → x ≡ y
some_is x y e = cc

start_meets : (o : Option ℕ) (old : List ℕ) → Meets (PartSection (o ≡ None) section.Start (IsStart o)) old (start_to o old)
start_meets None old = absent (None ≡ None) section.Start (IsStart None) refl old
start_meets (Some n) old = present (Some n ≡ None) section.Start (IsStart (Some n)) (index_to n []) (λ e. some_one n (Some n) refl e)
    (as_form (IsIndex n) (IsStart (Some n)) [] (index_to n []) (λ t h. (n, h, refl)) (λ t h. rw (some_is n h.0 h.2) h.1) (index_meets n [])) old

abbrev pub TypesOf : Parts → List ℕ → Type 0
TypesOf q text = PartSection (q.types ≡ []) section.Type (IsVec IsFuncType q.types) text

abbrev pub ImportsOf : Parts → List ℕ → Type 0
ImportsOf q text = PartSection (q.imports ≡ []) section.Import (IsVec IsImport q.imports) text

abbrev pub FunctionsOf : Parts → List ℕ → Type 0
FunctionsOf q text = PartSection (q.type_indices ≡ []) section.Function (IsVec IsIndex q.type_indices) text

abbrev pub TableOf : Parts → List ℕ → Type 0
TableOf q text = PartSection (q.tables ≡ []) section.Table (IsVec IsTable q.tables) text

abbrev pub MemoryOf : Parts → List ℕ → Type 0
MemoryOf q text = PartSection (q.memories ≡ []) section.Memory (IsVec IsMemory q.memories) text

abbrev pub GlobalsOf : Parts → List ℕ → Type 0
GlobalsOf q text = PartSection (q.globals ≡ []) section.Global (IsVec IsGlobal q.globals) text

abbrev pub ExportsOf : Parts → List ℕ → Type 0
ExportsOf q text = PartSection (q.exports ≡ []) section.Export (IsVec IsExport q.exports) text

abbrev pub StartOf : Parts → List ℕ → Type 0
StartOf q text = PartSection (q.start ≡ None) section.Start (IsStart q.start) text

abbrev pub ElemsOf : Parts → List ℕ → Type 0
ElemsOf q text = PartSection (q.elems ≡ []) section.Element (IsVec IsElem q.elems) text

abbrev pub CodesOf : Parts → List ℕ → Type 0
CodesOf q text = PartSection (q.codes ≡ []) section.Code (IsVec IsCode q.codes) text

abbrev pub DataOf : Parts → List ℕ → Type 0
DataOf q text = PartSection (q.data_segments ≡ []) section.Data (IsVec IsData q.data_segments) text

-- all of them from each on, and no other
abbrev pub FromCodes : Parts → List ℕ → Type 0
FromCodes q text = Follow (CodesOf q) (DataOf q) text

abbrev pub FromElems : Parts → List ℕ → Type 0
FromElems q text = Follow (ElemsOf q) (FromCodes q) text

abbrev pub FromStart : Parts → List ℕ → Type 0
FromStart q text = Follow (StartOf q) (FromElems q) text

abbrev pub FromExports : Parts → List ℕ → Type 0
FromExports q text = Follow (ExportsOf q) (FromStart q) text

abbrev pub FromGlobals : Parts → List ℕ → Type 0
FromGlobals q text = Follow (GlobalsOf q) (FromExports q) text

abbrev pub FromMemory : Parts → List ℕ → Type 0
FromMemory q text = Follow (MemoryOf q) (FromGlobals q) text

abbrev pub FromTable : Parts → List ℕ → Type 0
FromTable q text = Follow (TableOf q) (FromMemory q) text

abbrev pub FromFunctions : Parts → List ℕ → Type 0
FromFunctions q text = Follow (FunctionsOf q) (FromTable q) text

abbrev pub FromImports : Parts → List ℕ → Type 0
FromImports q text = Follow (ImportsOf q) (FromFunctions q) text

abbrev pub FromTypes : Parts → List ℕ → Type 0
FromTypes q text = Follow (TypesOf q) (FromImports q) text

abbrev pub parts_of : ModuleForm → Parts
parts_of m = record {
  types = m.types;
  imports = m.imports;
  type_indices = map (λ f. f.ty) m.funcs;
  tables = m.tables;
  memories = m.memories;
  globals = m.globals;
  exports = m.exports;
  start = m.start;
  elems = m.elems;
  codes = map code_form m.funcs;
  data_segments = m.data_segments;
}

none_mapped : {A B : Type 0} (f : A → B) (xs : List A) → xs ≡ [] → map f xs ≡ []
none_mapped f xs e = ap (map f) e

mapped_none : {A B : Type 0} (f : A → B) (xs : List A) → map f xs ≡ [] → xs ≡ []
mapped_none f [] e = refl
mapped_none f (x ∷ xs) e = absurd (some_list (f x) (map f xs) e)

types_meet : (m : ModuleForm) (old : List ℕ) → Meets (TypesOf (parts_of m)) old (vec_section_to section.Type func_type_to m.types old)
types_meet m old = vec_section_meets section.Type func_type_to m.types (m.types ≡ []) (IsVec IsFuncType m.types) (λ e. e) (λ e. e) (vec_meets IsFuncType func_type_to func_type_meets m.types []) old

imports_meet : (m : ModuleForm) (old : List ℕ) → Meets (ImportsOf (parts_of m)) old (vec_section_to section.Import import_to m.imports old)
imports_meet m old = vec_section_meets section.Import import_to m.imports (m.imports ≡ []) (IsVec IsImport m.imports) (λ e. e) (λ e. e) (vec_meets IsImport import_to import_meets m.imports []) old

functions_meet : (m : ModuleForm) (old : List ℕ) → Meets (FunctionsOf (parts_of m)) old (vec_section_to section.Function type_index_to m.funcs old)
functions_meet m old = vec_section_meets section.Function type_index_to m.funcs (map (λ f. f.ty) m.funcs ≡ []) (IsVec IsIndex (map (λ f. f.ty) m.funcs)) (none_mapped (λ f. f.ty) m.funcs) (mapped_none (λ f. f.ty) m.funcs) (type_indices_meet m.funcs []) old

table_meets : (m : ModuleForm) (old : List ℕ) → Meets (TableOf (parts_of m)) old (vec_section_to section.Table table_type_to m.tables old)
table_meets m old = vec_section_meets section.Table table_type_to m.tables (m.tables ≡ []) (IsVec IsTable m.tables) (λ e. e) (λ e. e) (vec_meets IsTable table_type_to table_type_meets m.tables []) old

memory_meets : (m : ModuleForm) (old : List ℕ) → Meets (MemoryOf (parts_of m)) old (vec_section_to section.Memory (limits_to 256) m.memories old)
memory_meets m old = vec_section_meets section.Memory (limits_to 256) m.memories (m.memories ≡ []) (IsVec IsMemory m.memories) (λ e. e) (λ e. e) (vec_meets IsMemory (limits_to 256) memory_type_meets m.memories []) old

globals_meet : (m : ModuleForm) (old : List ℕ) → Meets (GlobalsOf (parts_of m)) old (vec_section_to section.Global global_to m.globals old)
globals_meet m old = vec_section_meets section.Global global_to m.globals (m.globals ≡ []) (IsVec IsGlobal m.globals) (λ e. e) (λ e. e) (vec_meets IsGlobal global_to global_meets m.globals []) old

exports_meet : (m : ModuleForm) (old : List ℕ) → Meets (ExportsOf (parts_of m)) old (vec_section_to section.Export export_to m.exports old)
exports_meet m old = vec_section_meets section.Export export_to m.exports (m.exports ≡ []) (IsVec IsExport m.exports) (λ e. e) (λ e. e) (vec_meets IsExport export_to export_meets m.exports []) old

elems_meet : (m : ModuleForm) (old : List ℕ) → Meets (ElemsOf (parts_of m)) old (vec_section_to section.Element elem_to m.elems old)
elems_meet m old = vec_section_meets section.Element elem_to m.elems (m.elems ≡ []) (IsVec IsElem m.elems) (λ e. e) (λ e. e) (vec_meets IsElem elem_to elem_meets m.elems []) old

code_section_meets : (m : ModuleForm) (old : List ℕ) → Meets (CodesOf (parts_of m)) old (vec_section_to section.Code code_to m.funcs old)
code_section_meets m old = vec_section_meets section.Code code_to m.funcs (map code_form m.funcs ≡ []) (IsVec IsCode (map code_form m.funcs)) (none_mapped code_form m.funcs) (mapped_none code_form m.funcs) (codes_meet m.funcs []) old

data_section_meets : (m : ModuleForm) (old : List ℕ) → Meets (DataOf (parts_of m)) old (vec_section_to section.Data data_to m.data_segments old)
data_section_meets m old = vec_section_meets section.Data data_to m.data_segments (m.data_segments ≡ []) (IsVec IsData m.data_segments) (λ e. e) (λ e. e) (vec_meets IsData data_to data_meets m.data_segments []) old

-- ---- one behind the other

from_codes_meets : (m : ModuleForm) (old : List ℕ) → Meets (FromCodes (parts_of m)) old (from_codes_to m old)
from_codes_meets m old = then_meets (CodesOf (parts_of m)) (DataOf (parts_of m)) old (vec_section_to section.Code code_to m.funcs old) (from_data_to m) (code_section_meets m old) (data_section_meets m)

from_elems_meets : (m : ModuleForm) (old : List ℕ) → Meets (FromElems (parts_of m)) old (from_elems_to m old)
from_elems_meets m old = then_meets (ElemsOf (parts_of m)) (FromCodes (parts_of m)) old (vec_section_to section.Element elem_to m.elems old) (from_codes_to m) (elems_meet m old) (from_codes_meets m)

from_start_meets : (m : ModuleForm) (old : List ℕ) → Meets (FromStart (parts_of m)) old (from_start_to m old)
from_start_meets m old = then_meets (StartOf (parts_of m)) (FromElems (parts_of m)) old (start_to m.start old) (from_elems_to m) (start_meets m.start old) (from_elems_meets m)

from_exports_meets : (m : ModuleForm) (old : List ℕ) → Meets (FromExports (parts_of m)) old (from_exports_to m old)
from_exports_meets m old = then_meets (ExportsOf (parts_of m)) (FromStart (parts_of m)) old (vec_section_to section.Export export_to m.exports old) (from_start_to m) (exports_meet m old) (from_start_meets m)

from_globals_meets : (m : ModuleForm) (old : List ℕ) → Meets (FromGlobals (parts_of m)) old (from_globals_to m old)
from_globals_meets m old = then_meets (GlobalsOf (parts_of m)) (FromExports (parts_of m)) old (vec_section_to section.Global global_to m.globals old) (from_exports_to m) (globals_meet m old) (from_exports_meets m)

from_memory_meets : (m : ModuleForm) (old : List ℕ) → Meets (FromMemory (parts_of m)) old (from_memory_to m old)
from_memory_meets m old = then_meets (MemoryOf (parts_of m)) (FromGlobals (parts_of m)) old (vec_section_to section.Memory (limits_to 256) m.memories old) (from_globals_to m) (memory_meets m old) (from_globals_meets m)

from_table_meets : (m : ModuleForm) (old : List ℕ) → Meets (FromTable (parts_of m)) old (from_table_to m old)
from_table_meets m old = then_meets (TableOf (parts_of m)) (FromMemory (parts_of m)) old (vec_section_to section.Table table_type_to m.tables old) (from_memory_to m) (table_meets m old) (from_memory_meets m)

from_functions_meets : (m : ModuleForm) (old : List ℕ) → Meets (FromFunctions (parts_of m)) old (from_functions_to m old)
from_functions_meets m old = then_meets (FunctionsOf (parts_of m)) (FromTable (parts_of m)) old (vec_section_to section.Function type_index_to m.funcs old) (from_table_to m) (functions_meet m old) (from_table_meets m)

from_imports_meets : (m : ModuleForm) (old : List ℕ) → Meets (FromImports (parts_of m)) old (from_imports_to m old)
from_imports_meets m old = then_meets (ImportsOf (parts_of m)) (FromFunctions (parts_of m)) old (vec_section_to section.Import import_to m.imports old) (from_functions_to m) (imports_meet m old) (from_functions_meets m)

pub from_types_meets : (m : ModuleForm) (old : List ℕ) → Meets (FromTypes (parts_of m)) old (from_types_to m old)
from_types_meets m old = then_meets (TypesOf (parts_of m)) (FromImports (parts_of m)) old (vec_section_to section.Type func_type_to m.types old) (from_imports_to m) (types_meet m old) (from_imports_meets m)
