-- The parts of modules are written as they are spelled, in the fewest bytes.
use Rattle.std.proofs.Common.{◌≡◌, ℕ, Bool, true, false, cond, leb, List, [], ◌∷◌, ◌++◌, map, Option, Some, None, refl, sym, ap, subst, ◌∙◌, arith}
use Rattle.std.specs.Str.{is_utf8}
use Rattle.std.proofs.lemmas.Str.{is_utf8-from_IsUtf8, IsUtf8-from_is_utf8}
use Rattle.std.proofs.lemmas.Bool.{leb-true, leb-false}
use Rattle.std.proofs.lemmas.List.{length-map}
use Rattle.wasm_types.specs.declared.types.Limits.{Limits}
use Rattle.wasm_types.specs.declared.module.ExportDesc.{ExportDesc}
use Rattle.wasm_types.specs.declared.module.ExportDesc.TheVariants as export
use Rattle.wasm_types.specs.Syntax.{Signature, ImportForm, FuncForm, GlobalForm, ExportForm, ElemForm, DataForm}
use Rattle.wasm_types.specs.Leb128Texts.{and_then}
use Rattle.wasm_types.specs.Instructions.{Each, IsVec, Tagged, IsIndex, val_code, IsValType, IsExpr}
use Rattle.wasm_types.specs.ModuleGrammar.{IsBytes, IsName, IsOption, IsFuncType, IsImport, limits_text, IsLimits, IsTable, IsMemory, mut_code, IsGlobal, IsExportDesc, IsExport, IsElem, IsData, IsLocals, CodeForm, IsCode}
use Rattle.module_writer.specs.Writers.{Written, byte_to, index_to, vec_to, option_to, tagged_to, bytes_to, name_to}
use Rattle.module_writer.specs.Writing.{val_type_to, expr_to, func_type_to, import_to, limits_by, limits_to, table_type_to, global_to, export_desc_to, export_to, elem_to, data_to, locals_to, code_parts_to, code_to, type_index_to}
use Rattle.module_writer.proofs.Meets.{Meets, Follow, then_meets, as_form, byte_meets, index_meets, vec_meets, option_meets, tagged_meets, bytes_meets, sized_meets}
use Rattle.module_writer.proofs.Runs.{val_type_meets, locals_meets}
use Rattle.module_writer.proofs.BodyLaws.{behind_byte, expr_meets}

pub name_meets : (xs old : List ℕ) → Meets (IsName xs) old (name_to xs old)
name_meets xs old = by (is_utf8 xs) refl
  where
    by : (b : Bool) → is_utf8 xs ≡ b → Meets (IsName xs) old (cond b (bytes_to xs old) None)
    by true e = as_form (IsBytes xs) (IsName xs) old (bytes_to xs old) (λ t h. (IsUtf8-from_is_utf8 xs e, h)) (λ t h. h.1) (bytes_meets xs old)
    by false e = λ other h. (let no : false ≡ true = sym e ∙ is_utf8-from_IsUtf8 xs h.0 in absurd cc)

pub func_type_meets : (s : Signature) (old : List ℕ) → Meets (IsFuncType s) old (func_type_to s old)
func_type_meets s old = behind_byte 0x60 (Follow (IsVec IsValType s.params) (IsOption IsValType s.result)) (λ o. and_then (vec_to val_type_to s.params o) (option_to val_type_to s.result))
    (λ o. then_meets (IsVec IsValType s.params) (IsOption IsValType s.result) o (vec_to val_type_to s.params o) (option_to val_type_to s.result) (vec_meets IsValType val_type_to val_type_meets s.params o) (option_meets IsValType val_type_to val_type_meets s.result)) old

pub import_meets : (i : ImportForm) (old : List ℕ) → Meets (IsImport i) old (import_to i old)
import_meets i old = then_meets (IsName i.from) (Follow (IsName i.name) (Tagged 0x00 IsIndex i.ty)) old (name_to i.from old) (λ o. and_then (name_to i.name o) (tagged_to 0x00 index_to i.ty)) (name_meets i.from old)
    (λ o. then_meets (IsName i.name) (Tagged 0x00 IsIndex i.ty) o (name_to i.name o) (tagged_to 0x00 index_to i.ty) (name_meets i.name o) (tagged_meets 0x00 IsIndex index_to index_meets i.ty))

limits_by_meets : (l : Limits) (max : Option ℕ) (old : List ℕ) → Meets (limits_text l max) old (limits_by l.min max old)
limits_by_meets l None old = tagged_meets 0x00 IsIndex index_to index_meets l.min old
limits_by_meets l (Some n) old = as_form (Follow (Tagged 0x01 IsIndex l.min) (IsIndex n)) (limits_text l (Some n)) old (limits_by l.min (Some n) old)
    (λ t h. (h.2.0 ++ h.1, (h.2.0, h.1, h.2.1, h.3, refl), h.4 ∙ ap (λ (u : List ℕ). u ++ h.1) h.2.2))
    (λ t h. (0x01 ∷ h.1.0, h.1.1, (h.1.0, h.1.2, refl), h.1.3, h.2 ∙ ap (λ (u : List ℕ). 0x01 ∷ u) h.1.4))
    (then_meets (Tagged 0x01 IsIndex l.min) (IsIndex n) old (tagged_to 0x01 index_to l.min old) (index_to n) (tagged_meets 0x01 IsIndex index_to index_meets l.min old) (index_meets n))

pub limits_meets : (most : ℕ) (l : Limits) (old : List ℕ) → Meets (IsLimits most l) old (limits_to most l old)
limits_meets most l old = by (leb l.min most) refl
  where
    by : (b : Bool) → leb l.min most ≡ b → Meets (IsLimits most l) old (cond b (limits_by l.min l.max old) None)
    by true e = as_form (limits_text l l.max) (IsLimits most l) old (limits_by l.min l.max old) (λ t h. (leb-true l.min most e, h)) (λ t h. h.1) (limits_by_meets l l.max old)
    by false e = λ other h. (let past = leb-false l.min most e in let few = h.0 in absurd (omega (arith, past, few)))

pub table_type_meets : (l : Limits) (old : List ℕ) → Meets (IsTable l) old (table_type_to l old)
table_type_meets l old = tagged_meets 0x70 (IsLimits 65536) (limits_to 65536) (limits_meets 65536) l old

pub memory_type_meets : (l : Limits) (old : List ℕ) → Meets (IsMemory l) old (limits_to 256 l old)
memory_type_meets l old = limits_meets 256 l old

pub global_meets : (g : GlobalForm) (old : List ℕ) → Meets (IsGlobal g) old (global_to g old)
global_meets g old = as_form (Follow (IsValType g.ty.value) (Follow (λ t. t ≡ mut_code g.ty.mutable ∷ []) (IsExpr g.init))) (IsGlobal g) old (global_to g old)
    (λ t h. (val_code g.ty.value ∷ mut_code g.ty.mutable ∷ [], h.3.1, refl, h.3.3, h.4 ∙ ap (λ (u : List ℕ). u ++ h.1) h.2 ∙ ap (λ (u : List ℕ). val_code g.ty.value ∷ u) (h.3.4 ∙ ap (λ (u : List ℕ). u ++ h.3.1) h.3.2)))
    (λ t h. (val_code g.ty.value ∷ [], mut_code g.ty.mutable ∷ h.1, refl, (mut_code g.ty.mutable ∷ [], h.1, refl, h.3, refl), h.4 ∙ ap (λ (u : List ℕ). u ++ h.1) h.2))
    (then_meets (IsValType g.ty.value) (Follow (λ t. t ≡ mut_code g.ty.mutable ∷ []) (IsExpr g.init)) old (val_type_to g.ty.value old) (λ o. and_then (byte_to (mut_code g.ty.mutable) o) (expr_to g.init)) (val_type_meets g.ty.value old)
    (λ o. then_meets (λ t. t ≡ mut_code g.ty.mutable ∷ []) (IsExpr g.init) o (byte_to (mut_code g.ty.mutable) o) (expr_to g.init) (byte_meets (mut_code g.ty.mutable) o) (expr_meets g.init)))

export_desc_meets : (d : ExportDesc) (old : List ℕ) → Meets (IsExportDesc d) old (export_desc_to d old)
export_desc_meets (export.Func n) old = tagged_meets 0x00 IsIndex index_to index_meets n old
export_desc_meets (export.Table n) old = tagged_meets 0x01 IsIndex index_to index_meets n old
export_desc_meets (export.Memory n) old = tagged_meets 0x02 IsIndex index_to index_meets n old
export_desc_meets (export.Global n) old = tagged_meets 0x03 IsIndex index_to index_meets n old

pub export_meets : (e : ExportForm) (old : List ℕ) → Meets (IsExport e) old (export_to e old)
export_meets e old = then_meets (IsName e.name) (IsExportDesc e.desc) old (name_to e.name old) (export_desc_to e.desc) (name_meets e.name old) (export_desc_meets e.desc)

pub elem_meets : (e : ElemForm) (old : List ℕ) → Meets (IsElem e) old (elem_to e old)
elem_meets e old = then_meets (IsIndex e.table) (Follow (IsExpr e.offset) (IsVec IsIndex e.init)) old (index_to e.table old) (λ o. and_then (expr_to e.offset o) (vec_to index_to e.init)) (index_meets e.table old)
    (λ o. then_meets (IsExpr e.offset) (IsVec IsIndex e.init) o (expr_to e.offset o) (vec_to index_to e.init) (expr_meets e.offset o) (vec_meets IsIndex index_to index_meets e.init))

pub data_meets : (d : DataForm) (old : List ℕ) → Meets (IsData d) old (data_to d old)
data_meets d old = then_meets (IsIndex d.memory) (Follow (IsExpr d.offset) (IsBytes d.init)) old (index_to d.memory old) (λ o. and_then (expr_to d.offset o) (bytes_to d.init)) (index_meets d.memory old)
    (λ o. then_meets (IsExpr d.offset) (IsBytes d.init) o (expr_to d.offset o) (bytes_to d.init) (expr_meets d.offset o) (bytes_meets d.init))

-- ---- functions, in two sections

abbrev pub code_form : FuncForm → CodeForm
code_form f = record { locals = f.locals; body = f.body }

code_parts_meets : (f : FuncForm) (old : List ℕ) → Meets (Follow (IsLocals f.locals) (IsExpr f.body)) old (code_parts_to f old)
code_parts_meets f old = then_meets (IsLocals f.locals) (IsExpr f.body) old (locals_to f.locals old) (expr_to f.body) (locals_meets f.locals old) (expr_meets f.body)

code_meets : (f : FuncForm) (old : List ℕ) → Meets (IsCode (code_form f)) old (code_to f old)
code_meets f old = sized_meets (Follow (IsLocals f.locals) (IsExpr f.body)) (code_parts_to f []) (code_parts_meets f []) old

-- the same bytes for what the elements have
each_of : {A B : Type 0} (f : A → B) (P : B → List ℕ → Type 0) (xs : List A) (t : List ℕ) → Each (λ x. P (f x)) xs t → Each P (map f xs) t
each_of f P [] t h = h
each_of f P (x ∷ xs) t h = (h.0, h.1, h.2, each_of f P xs h.1 h.3, h.4)

of_each : {A B : Type 0} (f : A → B) (P : B → List ℕ → Type 0) (xs : List A) (t : List ℕ) → Each P (map f xs) t → Each (λ x. P (f x)) xs t
of_each f P [] t h = h
of_each f P (x ∷ xs) t h = (h.0, h.1, h.2, of_each f P xs h.1 h.3, h.4)

vec_of : {A B : Type 0} (f : A → B) (P : B → List ℕ → Type 0) (p : A → List ℕ → Written) → ((x : A) (old : List ℕ) → Meets (P (f x)) old (p x old)) → (xs : List A) (old : List ℕ) → Meets (IsVec P (map f xs)) old (vec_to p xs old)
vec_of f P p g xs old = as_form (IsVec (λ x. P (f x)) xs) (IsVec P (map f xs)) old (vec_to p xs old)
    (λ t h. (h.0, h.1, subst (λ (n : ℕ). IsIndex n h.0) (sym (length-map xs f)) h.2, each_of f P xs h.1 h.3, h.4))
    (λ t h. (h.0, h.1, subst (λ (n : ℕ). IsIndex n h.0) (length-map xs f) h.2, of_each f P xs h.1 h.3, h.4))
    (vec_meets (λ x. P (f x)) p g xs old)

pub type_indices_meet : (fs : List FuncForm) (old : List ℕ) → Meets (IsVec IsIndex (map (λ f. f.ty) fs)) old (vec_to type_index_to fs old)
type_indices_meet fs old = vec_of (λ f. f.ty) IsIndex type_index_to (λ f o. index_meets f.ty o) fs old

pub codes_meet : (fs : List FuncForm) (old : List ℕ) → Meets (IsVec IsCode (map code_form fs)) old (vec_to code_to fs old)
codes_meet fs old = vec_of code_form IsCode code_to code_meets fs old
