-- The bytes of all sections are those of a list of sections.
use Rattle.std.proofs.Common.{◌≡◌, ℕ, ◌<◌, ◌≤◌, List, [], ◌∷◌, ◌++◌, length, Option, None, inl, inr, refl, sym, ap, subst, ◌∙◌, arith}
use Rattle.std.proofs.lemmas.List.{append-nil}
use Rattle.wasm_types.specs.declared.types.Limits.{Limits}
use Rattle.wasm_types.specs.declared.module.SectionId.{SectionId}
use Rattle.wasm_types.specs.declared.module.SectionId.TheVariants as section
use Rattle.wasm_types.specs.Syntax.{Signature, ImportForm, GlobalForm, ExportForm, ElemForm, DataForm}
use Rattle.wasm_types.specs.Instructions.{IsVec, IsIndex}
use Rattle.wasm_types.specs.ModuleGrammar.{IsFuncType, IsImport, IsTable, IsMemory, IsGlobal, IsExport, IsElem, IsData, CodeForm, IsCode, Parts, no_parts, number, GivesPart, Section, Custom, Known, AreSections, Give}
use Rattle.module_writer.proofs.Meets.{Follow}
use Rattle.module_writer.proofs.SectionLaws.{PartSection, IsStart, FromTypes, FromImports, FromFunctions, FromTable, FromMemory, FromGlobals, FromExports, FromStart, FromElems, FromCodes, DataOf}

-- ---- parts with the sections up to one

abbrev pub to_types : Parts → Parts
to_types q = record no_parts { types = q.types }

abbrev pub to_imports : Parts → Parts
to_imports q = record (to_types q) { imports = q.imports }

abbrev pub to_type_indices : Parts → Parts
to_type_indices q = record (to_imports q) { type_indices = q.type_indices }

abbrev pub to_table : Parts → Parts
to_table q = record (to_type_indices q) { tables = q.tables }

abbrev pub to_memory : Parts → Parts
to_memory q = record (to_table q) { memories = q.memories }

abbrev pub to_globals : Parts → Parts
to_globals q = record (to_memory q) { globals = q.globals }

abbrev pub to_exports : Parts → Parts
to_exports q = record (to_globals q) { exports = q.exports }

abbrev pub to_start : Parts → Parts
to_start q = record (to_exports q) { start = q.start }

abbrev pub to_elems : Parts → Parts
to_elems q = record (to_start q) { elems = q.elems }

abbrev pub to_codes : Parts → Parts
to_codes q = record (to_elems q) { codes = q.codes }

-- ---- from the bytes of all sections to a list of sections

-- sections that lead from parts to parts
abbrev Leads : ℕ → Parts → Parts → List ℕ → Type 0
Leads last p r text = (ss : List Section) × Give ss last p r × AreSections ss text

weaker : (ss : List Section) (k last : ℕ) (p r : Parts) → last ≤ k → Give ss k p r → Give ss last p r
weaker [] k last p r le h = h
weaker (Custom c ∷ ss) k last p r le h = (h.0, weaker ss k last p r le h.1)
weaker (Known j c ∷ ss) k last p r le h = let lt = h.0 in (omega (arith, le, lt), h.1, h.2, h.3)

-- a section, or none, before the others
put_before : (N : Type 0) (k : SectionId) (P R : List ℕ → Type 0) (last : ℕ) (p q r : Parts) → last < number k → (N → q ≡ p) → ((c : List ℕ) → P c → GivesPart k c p q) → ((t : List ℕ) → R t → Leads (number k) q r t)
    → (t : List ℕ) → Follow (PartSection N k P) R t → Leads last p r t
put_before N k P R last p q r lt none some rest t h = by h.2
  where
    m : Leads (number k) q r h.1
    m = rest h.1 h.3

    by : PartSection N k P h.0 → Leads last p r t
    by (inl n) = (m.0, weaker m.0 (number k) last p r (omega (arith, lt)) (subst (λ (u : Parts). Give m.0 (number k) u r) (none n.0) m.1), subst (AreSections m.0) (sym (h.4 ∙ ap (λ (u : List ℕ). u ++ h.1) n.1)) m.2)
    by (inr n) = (Known k n.0 ∷ m.0, (lt, q, some n.0 n.1, m.1), (h.0, h.1, n.2, m.2, h.4))

lead_data_segments : (q : Parts) → (t : List ℕ) → DataOf q t → Leads 10 (to_codes q) q t
lead_data_segments q t h = put_before (q.data_segments ≡ []) section.Data (IsVec IsData q.data_segments) (λ u. u ≡ []) 10 (to_codes q) q q (omega arith) (λ e. ap (λ (x : List DataForm). record (to_codes q) { data_segments = x }) e) (λ c v. (q.data_segments, v, refl)) (λ u e. ([], refl, e)) t (t, [], h, refl, sym (append-nil t))

lead_codes : (q : Parts) → length q.codes ≡ length q.type_indices → (t : List ℕ) → FromCodes q t → Leads 9 (to_elems q) q t
lead_codes q counts t h = put_before (q.codes ≡ []) section.Code (IsVec IsCode q.codes) (DataOf q) 9 (to_elems q) (to_codes q) q (omega arith) (λ e. ap (λ (x : List CodeForm). record (to_elems q) { codes = x }) e) (λ c v. (q.codes, v, counts, refl)) (lead_data_segments q) t h

lead_elems : (q : Parts) → length q.codes ≡ length q.type_indices → (t : List ℕ) → FromElems q t → Leads 8 (to_start q) q t
lead_elems q counts t h = put_before (q.elems ≡ []) section.Element (IsVec IsElem q.elems) (FromCodes q) 8 (to_start q) (to_elems q) q (omega arith) (λ e. ap (λ (x : List ElemForm). record (to_start q) { elems = x }) e) (λ c v. (q.elems, v, refl)) (lead_codes q counts) t h

lead_start : (q : Parts) → length q.codes ≡ length q.type_indices → (t : List ℕ) → FromStart q t → Leads 7 (to_exports q) q t
lead_start q counts t h = put_before (q.start ≡ None) section.Start (IsStart q.start) (FromElems q) 7 (to_exports q) (to_start q) q (omega arith) (λ e. ap (λ (x : Option ℕ). record (to_exports q) { start = x }) e) (λ c v. (v.0, v.1, ap (λ (x : Option ℕ). record (to_exports q) { start = x }) v.2)) (lead_elems q counts) t h

lead_exports : (q : Parts) → length q.codes ≡ length q.type_indices → (t : List ℕ) → FromExports q t → Leads 6 (to_globals q) q t
lead_exports q counts t h = put_before (q.exports ≡ []) section.Export (IsVec IsExport q.exports) (FromStart q) 6 (to_globals q) (to_exports q) q (omega arith) (λ e. ap (λ (x : List ExportForm). record (to_globals q) { exports = x }) e) (λ c v. (q.exports, v, refl)) (lead_start q counts) t h

lead_globals : (q : Parts) → length q.codes ≡ length q.type_indices → (t : List ℕ) → FromGlobals q t → Leads 5 (to_memory q) q t
lead_globals q counts t h = put_before (q.globals ≡ []) section.Global (IsVec IsGlobal q.globals) (FromExports q) 5 (to_memory q) (to_globals q) q (omega arith) (λ e. ap (λ (x : List GlobalForm). record (to_memory q) { globals = x }) e) (λ c v. (q.globals, v, refl)) (lead_exports q counts) t h

lead_memory : (q : Parts) → length q.codes ≡ length q.type_indices → (t : List ℕ) → FromMemory q t → Leads 4 (to_table q) q t
lead_memory q counts t h = put_before (q.memories ≡ []) section.Memory (IsVec IsMemory q.memories) (FromGlobals q) 4 (to_table q) (to_memory q) q (omega arith) (λ e. ap (λ (x : List Limits). record (to_table q) { memories = x }) e) (λ c v. (q.memories, v, refl)) (lead_globals q counts) t h

lead_table : (q : Parts) → length q.codes ≡ length q.type_indices → (t : List ℕ) → FromTable q t → Leads 3 (to_type_indices q) q t
lead_table q counts t h = put_before (q.tables ≡ []) section.Table (IsVec IsTable q.tables) (FromMemory q) 3 (to_type_indices q) (to_table q) q (omega arith) (λ e. ap (λ (x : List Limits). record (to_type_indices q) { tables = x }) e) (λ c v. (q.tables, v, refl)) (lead_memory q counts) t h

lead_type_indices : (q : Parts) → length q.codes ≡ length q.type_indices → (t : List ℕ) → FromFunctions q t → Leads 2 (to_imports q) q t
lead_type_indices q counts t h = put_before (q.type_indices ≡ []) section.Function (IsVec IsIndex q.type_indices) (FromTable q) 2 (to_imports q) (to_type_indices q) q (omega arith) (λ e. ap (λ (x : List ℕ). record (to_imports q) { type_indices = x }) e) (λ c v. (q.type_indices, v, refl)) (lead_table q counts) t h

lead_imports : (q : Parts) → length q.codes ≡ length q.type_indices → (t : List ℕ) → FromImports q t → Leads 1 (to_types q) q t
lead_imports q counts t h = put_before (q.imports ≡ []) section.Import (IsVec IsImport q.imports) (FromFunctions q) 1 (to_types q) (to_imports q) q (omega arith) (λ e. ap (λ (x : List ImportForm). record (to_types q) { imports = x }) e) (λ c v. (q.imports, v, refl)) (lead_type_indices q counts) t h

pub lead_types : (q : Parts) → length q.codes ≡ length q.type_indices → (t : List ℕ) → FromTypes q t → Leads 0 no_parts q t
lead_types q counts t h = put_before (q.types ≡ []) section.Type (IsVec IsFuncType q.types) (FromImports q) 0 no_parts (to_types q) q (omega arith) (λ e. ap (λ (x : List Signature). record no_parts { types = x }) e) (λ c v. (q.types, v, refl)) (lead_imports q counts) t h
