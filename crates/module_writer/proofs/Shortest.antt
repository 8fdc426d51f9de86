-- Any bytes of a module are no fewer than those of all its sections and no other.
use Rattle.std.proofs.Common.{◌≡◌, ℕ, ◌+◌, ◌<◌, ◌≤◌, List, [], ◌∷◌, ◌++◌, length, get_or, Option, Some, None, ◌⊎◌, inl, inr, refl, sym, ap, subst, ◌∙◌, arith, length-append}
use Rattle.std.proofs.lemmas.Bool.{cases_lt}
use Rattle.std.proofs.lemmas.List.{append-nil}
use Rattle.wasm_types.specs.declared.types.Limits.{Limits}
use Rattle.wasm_types.specs.declared.module.SectionId.{SectionId}
use Rattle.wasm_types.specs.declared.module.SectionId.TheVariants as section
use Rattle.wasm_types.specs.Syntax.{Signature, ImportForm, GlobalForm, ExportForm, ElemForm, DataForm}
use Rattle.wasm_types.specs.Instructions.{IsVec, IsIndex}
use Rattle.wasm_types.specs.ModuleGrammar.{IsFuncType, IsImport, IsTable, IsMemory, IsGlobal, IsExport, IsElem, IsData, CodeForm, IsCode, Parts, no_parts, number, GivesPart, Section, Custom, Known, IsSection, AreSections, Give}
use Rattle.module_writer.proofs.Meets.{Follow}
use Rattle.module_writer.proofs.SectionLaws.{PartSection, IsStart, DataOf, FromCodes, FromElems, FromStart, FromExports, FromGlobals, FromMemory, FromTable, FromFunctions, FromImports, FromTypes}
use Rattle.module_writer.proofs.ModuleLaws.{to_types, to_imports, to_type_indices, to_table, to_memory, to_globals, to_exports, to_start, to_elems, to_codes}

-- ---- sections by their numbers

abbrev by_number : ℕ → SectionId
by_number n = get_or (section.Type ∷ section.Type ∷ section.Import ∷ section.Function ∷ section.Table ∷ section.Memory ∷ section.Global ∷ section.Export ∷ section.Start ∷ section.Element ∷ section.Code ∷ section.Data ∷ []) n section.Type

numbered : (k : SectionId) → by_number (number k) ≡ k
numbered section.Type = refl
numbered section.Import = refl
numbered section.Function = refl
numbered section.Table = refl
numbered section.Memory = refl
numbered section.Global = refl
numbered section.Export = refl
numbered section.Start = refl
numbered section.Element = refl
numbered section.Code = refl
numbered section.Data = refl

same_number : (j k : SectionId) → number j ≡ number k → j ≡ k
same_number j k e = sym (numbered j) ∙ ap by_number e ∙ numbered k

number_most : (k : SectionId) → number k ≤ 11
number_most section.Type = omega arith
number_most section.Import = omega arith
number_most section.Function = omega arith
number_most section.Table = omega arith
number_most section.Memory = omega arith
number_most section.Global = omega arith
number_most section.Export = omega arith
number_most section.Start = omega arith
number_most section.Element = omega arith
number_most section.Code = omega arith
number_most section.Data = omega arith

-- ---- the next section, or none

-- what section k, if it is there, makes of the parts p on the way to r
record Next (k : SectionId) (p r : Parts) (size : ℕ) : Type 0 where
  q : Parts
  text : List ℕ
  rest : List ℕ
  ss : List Section
  taken : ((q ≡ p) × (text ≡ [])) ⊎ ((c : List ℕ) × GivesPart k c p q × IsSection (Known k c) text)
  gives : Give ss (number k) q r
  spelled : AreSections ss rest
  fewer : length text + length rest ≤ size

next_of : (k : SectionId) (last : ℕ) → number k ≡ last + 1 → (ss : List Section) (text : List ℕ) (p r : Parts) → AreSections ss text → Give ss last p r → Next k p r (length text)
next_of k last e [] text p r s g = record { q = p; text = []; rest = []; ss = []; taken = inl (refl, refl); gives = g; spelled = refl; fewer = omega arith }
next_of k last e (Custom c ∷ ss) text p r s g =
    let n = next_of k last e ss s.1 p r s.3 g.1 in
    let all = ap length s.4 in
    let both = length-append s.0 s.1 in
    let less = n.fewer in
    record { q = n.q; text = n.text; rest = n.rest; ss = n.ss; taken = n.taken; gives = n.gives; spelled = n.spelled; fewer = omega (arith, all, both, less) }
next_of k last e (Known j c ∷ ss) text p r s g = by (cases_lt (number k) (number j))
  where
    by : (number k < number j) ⊎ (number j ≤ number k) → Next k p r (length text)
    by (inl later) = record { q = p; text = []; rest = text; ss = Known j c ∷ ss; taken = inl (refl, refl); gives = (later, g.1, g.2, g.3); spelled = s; fewer = omega arith }
    by (inr le) =
        let lt = g.0 in
        let same : number j ≡ number k = omega (arith, le, lt, e) in
        let is = same_number j k same in
        let all = ap length s.4 in
        let both = length-append s.0 s.1 in
        record {
          q = g.1;
          text = s.0;
          rest = s.1;
          ss = ss;
          taken = inr (c, subst (λ (i : SectionId). GivesPart i c p g.1) is g.2, subst (λ (i : SectionId). IsSection (Known i c) s.0) is s.2);
          gives = subst (λ (n : ℕ). Give ss n g.1 r) same g.3;
          spelled = s.3;
          fewer = omega (arith, all, both);
        }

-- behind the last section
none_left : (ss : List Section) (p r : Parts) → Give ss 11 p r → r ≡ p
none_left [] p r g = g
none_left (Custom c ∷ ss) p r g = none_left ss p r g.1
none_left (Known k c ∷ ss) p r g = let lt = g.0 in let le = number_most k in absurd (omega (arith, lt, le))

-- ---- all sections in turn

-- bytes that are no more, of the parts of r, of which the low ones are those of p
abbrev Found : (Parts → List ℕ → Type 0) → (Parts → Parts) → Parts → Parts → ℕ → Type 0
Found Rest low p r size = (t : List ℕ) × Rest r t × (length t ≤ size) × (low r ≡ low p)

abbrev Finds : (Parts → List ℕ → Type 0) → (Parts → Parts) → ℕ → Type 0
Finds Rest low last = (p : Parts) (ss : List Section) (text : List ℕ) (r : Parts) → AreSections ss text → Give ss last (low p) r → Found Rest low p r (length text)

-- what section k tells of: a field, which the high parts have and the low ones not
record Field {X : Type 0} (Nothing : X → Type 0) (Spelled : X → List ℕ → Type 0) (k : SectionId) (low high : Parts → Parts) (field : Parts → X) : Type 0 where
  put : Parts → X → Parts
  none : X
  nothing : Nothing none
  unset : (p : Parts) → low p ≡ high (put p none)
  set : (p : Parts) (c : List ℕ) (q : Parts) → GivesPart k c (low p) q → (x : X) × Spelled x c × (q ≡ high (put p x))
  field_set : (p : Parts) (x : X) → field (high (put p x)) ≡ x
  low_set : (p : Parts) (x : X) → low (high (put p x)) ≡ low p
  field_high : (q : Parts) → field (high q) ≡ field q
  low_high : (q : Parts) → low (high q) ≡ low q

found_before : {X : Type 0} (Nothing : X → Type 0) (Spelled : X → List ℕ → Type 0) (k : SectionId) (low high : Parts → Parts) (field : Parts → X) (last : ℕ) (Rest : Parts → List ℕ → Type 0) → number k ≡ last + 1 → Field Nothing Spelled k low high field
    → Finds Rest high (number k) → Finds (λ r. Follow (PartSection (Nothing (field r)) k (Spelled (field r))) (Rest r)) low last
found_before {X} Nothing Spelled k low high field last Rest e f rest p ss text r s g = by n.taken
  where
    n : Next k (low p) r (length text)
    n = next_of k last e ss text (low p) r s g

    with_part : (x : X) → PartSection (Nothing x) k (Spelled x) n.text → Found Rest high (f.put p x) r (length n.rest) → Found (λ r. Follow (PartSection (Nothing (field r)) k (Spelled (field r))) (Rest r)) low p r (length text)
    with_part x part h =
        let is : field r ≡ x = sym (f.field_high r) ∙ ap field h.3 ∙ f.field_set p x in
        let same : low r ≡ low p = sym (f.low_high r) ∙ ap low h.3 ∙ f.low_set p x in
        let less = n.fewer in
        let least = h.2 in
        let both = length-append n.text h.0 in
        (n.text ++ h.0, (n.text, h.0, subst (λ (y : X). PartSection (Nothing y) k (Spelled y) n.text) (sym is) part, h.1, refl), omega (arith, less, least, both), same)

    by : ((n.q ≡ low p) × (n.text ≡ [])) ⊎ ((c : List ℕ) × GivesPart k c (low p) n.q × IsSection (Known k c) n.text) → Found (λ r. Follow (PartSection (Nothing (field r)) k (Spelled (field r))) (Rest r)) low p r (length text)
    by (inl h) = with_part f.none (inl (f.nothing, h.1)) (rest (f.put p f.none) n.ss n.rest r n.spelled (subst (λ (u : Parts). Give n.ss (number k) u r) (h.0 ∙ f.unset p) n.gives))
    by (inr h) = let x = f.set p h.0 n.q h.1 in with_part x.0 (inr (h.0, x.1, h.2)) (rest (f.put p x.0) n.ss n.rest r n.spelled (subst (λ (u : Parts). Give n.ss (number k) u r) x.2 n.gives))

abbrev Ended : Parts → List ℕ → Type 0
Ended q t = t ≡ []

found_end : Finds Ended (λ q. q) 11
found_end p ss text r s g = ([], refl, omega arith, none_left ss p r g)

data_segments_field : Field (λ (x : List DataForm). x ≡ []) (IsVec IsData) section.Data to_codes (λ q. q) (λ q. q.data_segments)
data_segments_field = record {
  put = λ p x. record p { data_segments = x };
  none = [];
  nothing = refl;
  unset = λ p. refl;
  set = λ p c q h. h;
  field_set = λ p x. refl;
  low_set = λ p x. refl;
  field_high = λ q. refl;
  low_high = λ q. refl;
}

found_data_segments : Finds DataOf to_codes 10
found_data_segments p ss text r s g =
    let h = found_before (λ (x : List DataForm). x ≡ []) (IsVec IsData) section.Data to_codes (λ q. q) (λ q. q.data_segments) 10 Ended refl data_segments_field found_end p ss text r s g in
    let same : h.0 ≡ h.1.0 = h.1.4 ∙ ap (λ (u : List ℕ). h.1.0 ++ u) h.1.3 ∙ append-nil h.1.0 in
    (h.0, subst (DataOf r) (sym same) h.1.2, h.2, h.3)

codes_field : Field (λ (x : List CodeForm). x ≡ []) (IsVec IsCode) section.Code to_elems to_codes (λ q. q.codes)
codes_field = record {
  put = λ p x. record p { codes = x };
  none = [];
  nothing = refl;
  unset = λ p. refl;
  set = λ p c q h. (h.0, h.1, h.3);
  field_set = λ p x. refl;
  low_set = λ p x. refl;
  field_high = λ q. refl;
  low_high = λ q. refl;
}

found_codes : Finds FromCodes to_elems 9
found_codes = found_before (λ (x : List CodeForm). x ≡ []) (IsVec IsCode) section.Code to_elems to_codes (λ q. q.codes) 9 DataOf refl codes_field found_data_segments

elems_field : Field (λ (x : List ElemForm). x ≡ []) (IsVec IsElem) section.Element to_start to_elems (λ q. q.elems)
elems_field = record {
  put = λ p x. record p { elems = x };
  none = [];
  nothing = refl;
  unset = λ p. refl;
  set = λ p c q h. h;
  field_set = λ p x. refl;
  low_set = λ p x. refl;
  field_high = λ q. refl;
  low_high = λ q. refl;
}

found_elems : Finds FromElems to_start 8
found_elems = found_before (λ (x : List ElemForm). x ≡ []) (IsVec IsElem) section.Element to_start to_elems (λ q. q.elems) 8 FromCodes refl elems_field found_codes

start_field : Field (λ (x : Option ℕ). x ≡ None) IsStart section.Start to_exports to_start (λ q. q.start)
start_field = record {
  put = λ p x. record p { start = x };
  none = None;
  nothing = refl;
  unset = λ p. refl;
  set = λ p c q h. (Some h.0, (h.0, h.1, refl), h.2);
  field_set = λ p x. refl;
  low_set = λ p x. refl;
  field_high = λ q. refl;
  low_high = λ q. refl;
}

found_start : Finds FromStart to_exports 7
found_start = found_before (λ (x : Option ℕ). x ≡ None) IsStart section.Start to_exports to_start (λ q. q.start) 7 FromElems refl start_field found_elems

exports_field : Field (λ (x : List ExportForm). x ≡ []) (IsVec IsExport) section.Export to_globals to_exports (λ q. q.exports)
exports_field = record {
  put = λ p x. record p { exports = x };
  none = [];
  nothing = refl;
  unset = λ p. refl;
  set = λ p c q h. h;
  field_set = λ p x. refl;
  low_set = λ p x. refl;
  field_high = λ q. refl;
  low_high = λ q. refl;
}

found_exports : Finds FromExports to_globals 6
found_exports = found_before (λ (x : List ExportForm). x ≡ []) (IsVec IsExport) section.Export to_globals to_exports (λ q. q.exports) 6 FromStart refl exports_field found_start

globals_field : Field (λ (x : List GlobalForm). x ≡ []) (IsVec IsGlobal) section.Global to_memory to_globals (λ q. q.globals)
globals_field = record {
  put = λ p x. record p { globals = x };
  none = [];
  nothing = refl;
  unset = λ p. refl;
  set = λ p c q h. h;
  field_set = λ p x. refl;
  low_set = λ p x. refl;
  field_high = λ q. refl;
  low_high = λ q. refl;
}

found_globals : Finds FromGlobals to_memory 5
found_globals = found_before (λ (x : List GlobalForm). x ≡ []) (IsVec IsGlobal) section.Global to_memory to_globals (λ q. q.globals) 5 FromExports refl globals_field found_exports

memory_field : Field (λ (x : List Limits). x ≡ []) (IsVec IsMemory) section.Memory to_table to_memory (λ q. q.memories)
memory_field = record {
  put = λ p x. record p { memories = x };
  none = [];
  nothing = refl;
  unset = λ p. refl;
  set = λ p c q h. h;
  field_set = λ p x. refl;
  low_set = λ p x. refl;
  field_high = λ q. refl;
  low_high = λ q. refl;
}

found_memory : Finds FromMemory to_table 4
found_memory = found_before (λ (x : List Limits). x ≡ []) (IsVec IsMemory) section.Memory to_table to_memory (λ q. q.memories) 4 FromGlobals refl memory_field found_globals

table_field : Field (λ (x : List Limits). x ≡ []) (IsVec IsTable) section.Table to_type_indices to_table (λ q. q.tables)
table_field = record {
  put = λ p x. record p { tables = x };
  none = [];
  nothing = refl;
  unset = λ p. refl;
  set = λ p c q h. h;
  field_set = λ p x. refl;
  low_set = λ p x. refl;
  field_high = λ q. refl;
  low_high = λ q. refl;
}

found_table : Finds FromTable to_type_indices 3
found_table = found_before (λ (x : List Limits). x ≡ []) (IsVec IsTable) section.Table to_type_indices to_table (λ q. q.tables) 3 FromMemory refl table_field found_memory

type_indices_field : Field (λ (x : List ℕ). x ≡ []) (IsVec IsIndex) section.Function to_imports to_type_indices (λ q. q.type_indices)
type_indices_field = record {
  put = λ p x. record p { type_indices = x };
  none = [];
  nothing = refl;
  unset = λ p. refl;
  set = λ p c q h. h;
  field_set = λ p x. refl;
  low_set = λ p x. refl;
  field_high = λ q. refl;
  low_high = λ q. refl;
}

found_type_indices : Finds FromFunctions to_imports 2
found_type_indices = found_before (λ (x : List ℕ). x ≡ []) (IsVec IsIndex) section.Function to_imports to_type_indices (λ q. q.type_indices) 2 FromTable refl type_indices_field found_table

imports_field : Field (λ (x : List ImportForm). x ≡ []) (IsVec IsImport) section.Import to_types to_imports (λ q. q.imports)
imports_field = record {
  put = λ p x. record p { imports = x };
  none = [];
  nothing = refl;
  unset = λ p. refl;
  set = λ p c q h. h;
  field_set = λ p x. refl;
  low_set = λ p x. refl;
  field_high = λ q. refl;
  low_high = λ q. refl;
}

found_imports : Finds FromImports to_types 1
found_imports = found_before (λ (x : List ImportForm). x ≡ []) (IsVec IsImport) section.Import to_types to_imports (λ q. q.imports) 1 FromFunctions refl imports_field found_type_indices

types_field : Field (λ (x : List Signature). x ≡ []) (IsVec IsFuncType) section.Type (λ q. no_parts) to_types (λ q. q.types)
types_field = record {
  put = λ p x. record p { types = x };
  none = [];
  nothing = refl;
  unset = λ p. refl;
  set = λ p c q h. h;
  field_set = λ p x. refl;
  low_set = λ p x. refl;
  field_high = λ q. refl;
  low_high = λ q. refl;
}

found_types : Finds FromTypes (λ q. no_parts) 0
found_types = found_before (λ (x : List Signature). x ≡ []) (IsVec IsFuncType) section.Type (λ q. no_parts) to_types (λ q. q.types) 0 FromImports refl types_field found_imports

-- all sections that there are, one behind the other, without those that leave no trace
pub shortest : (ss : List Section) (text : List ℕ) (r : Parts) → AreSections ss text → Give ss 0 no_parts r → (t : List ℕ) × FromTypes r t × (length t ≤ length text)
shortest ss text r s g = let h = found_types no_parts ss text r s g in (h.0, h.1, h.2)
