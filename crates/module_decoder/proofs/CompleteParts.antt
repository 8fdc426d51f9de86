-- What is spelled of the parts of a module is read.
use Rattle.std.proofs.Common.{◌≡◌, ℕ, ◌-◌, ◌≤◌, true, false, List, [], ◌∷◌, ◌++◌, length, replicate, Option, Some, None, Ok, refl, sym, ap, subst, ◌∙◌, append_assoc, arith, length-append, eq-eqb}
use Rattle.std.proofs.lemmas.Bool.{le-leb}
use Rattle.std.proofs.lemmas.List.{length-replicate}
use Rattle.wasm_types.specs.declared.types.ValType.{ValType}
use Rattle.wasm_types.specs.declared.module.ExportDesc.TheVariants as export
use Rattle.wasm_types.specs.declared.module.SectionId.{SectionId}
use Rattle.wasm_types.specs.declared.module.SectionId.TheVariants as section
use Rattle.wasm_types.specs.Instructions.{Both, Each, IsVec, Tagged, IsIndex, val_code, IsValType, IsExpr}
use Rattle.wasm_types.specs.ModuleGrammar.{IsBytes, IsName, IsOption, IsFuncType, IsImport, limits_text, IsLimits, IsTable, IsMemory, mut_code, IsGlobalType, IsGlobal, IsExportDesc, IsExport, IsElem, IsData, expanded, IsLocals, CodeForm, IsCode, Parts, GivesPart}
use Rattle.module_decoder.specs.declared.basics.Span.{Span}
use Rattle.module_decoder.specs.Readers.{◌>>=◌, Read, both_at, index_at, vec_at, option_at, tagged_at, bytes_at}
use Rattle.module_decoder.specs.Reading.{name_at, expr_at, val_type_at, func_type_at, import_at, min_at, limits_by, limits_at, table_type_at, mut_at, global_type_at, global_at, export_desc_at, export_at, elem_at, data_at, runs_at, locals_at, code_parts_at, before, code_at, codes_by, part_at}
use Rattle.module_decoder.proofs.Complete.{IsAgain, both_again, mapped_again, index_again, vec_again, option_again, tagged_again, whole_again, bytes_again, name_again}
use Rattle.module_decoder.proofs.CompleteBody.{val_type_again, expr_again}

func_type_again : (c : Span) → IsAgain IsFuncType (func_type_at c)
func_type_again c =
    let ps = vec_again c IsValType (val_type_at c) (val_type_again c) in
    let rs = option_again c IsValType (val_type_at c) (val_type_again c) in
    let both = both_again (IsVec IsValType) (IsOption IsValType) (vec_at c (val_type_at c)) (option_at c (val_type_at c)) ps rs in
    mapped_again (Tagged 0x60 (Both (IsVec IsValType) (IsOption IsValType))) IsFuncType (λ x. record { params = x.0; result = x.1 }) (λ s. (s.params, s.result)) (tagged_at c 0x60 (both_at (vec_at c (val_type_at c)) (option_at c (val_type_at c))))
    (tagged_again c 0x60 (Both (IsVec IsValType) (IsOption IsValType)) (both_at (vec_at c (val_type_at c)) (option_at c (val_type_at c))) both) (λ y text h. h) (λ y. refl)

import_again : (c : Span) → IsAgain IsImport (import_at c)
import_again c =
    let inner = both_again IsName (Tagged 0x00 IsIndex) (name_at c) (tagged_at c 0x00 (index_at c)) (name_again c) (tagged_again c 0x00 IsIndex (index_at c) (index_again c)) in
    mapped_again (Both IsName (Both IsName (Tagged 0x00 IsIndex))) IsImport (λ x. record { from = x.0; name = x.1.0; ty = x.1.1 }) (λ i. (i.from, (i.name, i.ty))) (both_at (name_at c) (both_at (name_at c) (tagged_at c 0x00 (index_at c))))
    (both_again IsName (Both IsName (Tagged 0x00 IsIndex)) (name_at c) (both_at (name_at c) (tagged_at c 0x00 (index_at c))) (name_again c) inner) (λ y text h. h) (λ y. refl)

min_again : (c : Span) (most min : ℕ) (text rest : List ℕ) → min ≤ most → IsIndex min text → min_at c most (text ++ rest) ≡ Ok (min, rest)
min_again c most min text rest small h = rw (index_again c min text rest h, le-leb min most small) refl

limits_by_again : (c : Span) (most min : ℕ) (max : Option ℕ) (text rest : List ℕ) → min ≤ most → limits_text (record { min = min; max = max }) max text → (b : ℕ) × (tail : List ℕ) × (text ≡ b ∷ tail) × (limits_by c most b (tail ++ rest) ≡ Ok (record { min = min; max = max }, rest))
limits_by_again c most min None text rest small h = (0x00, h.0, h.2, rw (min_again c most min h.0 rest small h.1) refl)
limits_by_again c most min (Some n) text rest small h =
    let q : h.0 ++ rest ≡ h.1.0 ++ (h.1.1 ++ rest) = rw h.1.4 (append_assoc h.1.0 h.1.1 rest) in
    (0x01, h.0, h.2, rw (q, min_again c most min h.1.0 (h.1.1 ++ rest) small h.1.2, index_again c n h.1.1 rest h.1.3) refl)

limits_again : (c : Span) (most : ℕ) → IsAgain (IsLimits most) (limits_at c most)
limits_again c most l text rest h = let r = limits_by_again c most l.min l.max text rest h.0 h.1 in rw (r.2, r.3) refl

table_type_again : (c : Span) → IsAgain IsTable (table_type_at c)
table_type_again c = tagged_again c 0x70 (IsLimits 65536) (limits_at c 65536) (limits_again c 65536)

mut_again : (c : Span) → IsAgain (λ m t. t ≡ mut_code m ∷ []) (mut_at c)
mut_again c false text rest h = rw h refl
mut_again c true text rest h = rw h refl

global_type_again : (c : Span) → IsAgain IsGlobalType (global_type_at c)
global_type_again c =
    mapped_again (Both IsValType (λ m t. t ≡ mut_code m ∷ [])) IsGlobalType (λ x. record { value = x.0; mutable = x.1 }) (λ g. (g.value, g.mutable)) (both_at (val_type_at c) (mut_at c))
    (both_again IsValType (λ m t. t ≡ mut_code m ∷ []) (val_type_at c) (mut_at c) (val_type_again c) (mut_again c)) (λ y text h. (val_code y.value ∷ [], mut_code y.mutable ∷ [], refl, refl, h)) (λ y. refl)

global_again : (c : Span) → IsAgain IsGlobal (global_at c)
global_again c =
    mapped_again (Both IsGlobalType IsExpr) IsGlobal (λ x. record { ty = x.0; init = x.1 }) (λ g. (g.ty, g.init)) (both_at (global_type_at c) (expr_at c)) (both_again IsGlobalType IsExpr (global_type_at c) (expr_at c) (global_type_again c) (expr_again c)) (λ y text h. h) (λ y. refl)

export_desc_again : (c : Span) → IsAgain IsExportDesc (export_desc_at c)
export_desc_again c (export.Func n) text rest h = rw (h.2, index_again c n h.0 rest h.1) refl
export_desc_again c (export.Table n) text rest h = rw (h.2, index_again c n h.0 rest h.1) refl
export_desc_again c (export.Memory n) text rest h = rw (h.2, index_again c n h.0 rest h.1) refl
export_desc_again c (export.Global n) text rest h = rw (h.2, index_again c n h.0 rest h.1) refl

export_again : (c : Span) → IsAgain IsExport (export_at c)
export_again c =
    mapped_again (Both IsName IsExportDesc) IsExport (λ x. record { name = x.0; desc = x.1 }) (λ e. (e.name, e.desc)) (both_at (name_at c) (export_desc_at c)) (both_again IsName IsExportDesc (name_at c) (export_desc_at c) (name_again c) (export_desc_again c)) (λ y text h. h) (λ y. refl)

elem_again : (c : Span) → IsAgain IsElem (elem_at c)
elem_again c =
    let inner = both_again IsExpr (IsVec IsIndex) (expr_at c) (vec_at c (index_at c)) (expr_again c) (vec_again c IsIndex (index_at c) (index_again c)) in
    mapped_again (Both IsIndex (Both IsExpr (IsVec IsIndex))) IsElem (λ x. record { table = x.0; offset = x.1.0; init = x.1.1 }) (λ e. (e.table, (e.offset, e.init))) (both_at (index_at c) (both_at (expr_at c) (vec_at c (index_at c))))
    (both_again IsIndex (Both IsExpr (IsVec IsIndex)) (index_at c) (both_at (expr_at c) (vec_at c (index_at c))) (index_again c) inner) (λ y text h. h) (λ y. refl)

data_again : (c : Span) → IsAgain IsData (data_at c)
data_again c =
    let inner = both_again IsExpr IsBytes (expr_at c) (bytes_at c) (expr_again c) (bytes_again c) in
    mapped_again (Both IsIndex (Both IsExpr IsBytes)) IsData (λ x. record { memory = x.0; offset = x.1.0; init = x.1.1 }) (λ d. (d.memory, (d.offset, d.init))) (both_at (index_at c) (both_at (expr_at c) (bytes_at c)))
    (both_again IsIndex (Both IsExpr IsBytes) (index_at c) (both_at (expr_at c) (bytes_at c)) (index_again c) inner) (λ y text h. h) (λ y. refl)

-- ---- code

runs_again : (c : Span) (runs : List (ℕ × ValType)) (left : ℕ) (text rest : List ℕ) → Each (Both IsIndex IsValType) runs text → length (expanded runs) ≤ left → runs_at c (length runs) left (text ++ rest) ≡ Ok (expanded runs, rest)
runs_again c [] left text rest h room = rw h refl
runs_again c (r ∷ runs) left text rest h room =
    let q : text ++ rest ≡ h.0 ++ (h.1 ++ rest) = rw h.4 (append_assoc h.0 h.1 rest) in
    let n = length-replicate r.0 r.1 in
    let l = length-append (replicate r.0 r.1) (expanded runs) in
    let next = runs_again c runs (left - r.0) h.1 rest h.3 (omega (arith, n, l, room)) in
    let parts : h.0 ++ (h.1 ++ rest) ≡ h.2.0 ++ (h.2.1 ++ (h.1 ++ rest)) = rw h.2.4 (append_assoc h.2.0 h.2.1 (h.1 ++ rest)) in
    let small : r.0 ≤ left = omega (arith, n, l, room) in
    rw (q, parts, index_again c r.0 h.2.0 (h.2.1 ++ (h.1 ++ rest)) h.2.2, le-leb r.0 left small, val_type_again c r.1 h.2.1 (h.1 ++ rest) h.2.3, next) refl

locals_again : (c : Span) → IsAgain IsLocals (locals_at c)
locals_again c ts text rest h =
    let q : text ++ rest ≡ h.1.0 ++ (h.1.1 ++ rest) = rw h.1.4 (append_assoc h.1.0 h.1.1 rest) in
    let room : length (expanded h.0) ≤ 50000 = subst (λ (us : List ValType). length us ≤ 50000) h.2 h.3 in
    rw (q, index_again c (length h.0) h.1.0 (h.1.1 ++ rest) h.1.2) (runs_again c h.0 50000 h.1.1 rest h.1.3 room ∙ ap (λ (us : List ValType). Ok (us, rest)) (sym h.2))

code_parts_again : (c : Span) → IsAgain (λ x t. Both IsLocals IsExpr (x.locals, x.body) t) (code_parts_at c)
code_parts_again c =
    mapped_again (Both IsLocals IsExpr) (λ (x : CodeForm) (t : List ℕ). Both IsLocals IsExpr (x.locals, x.body) t) (λ x. record { locals = x.0; body = x.1 }) (λ x. (x.locals, x.body)) (both_at (locals_at c) (expr_at c))
    (both_again IsLocals IsExpr (locals_at c) (expr_at c) (locals_again c) (expr_again c)) (λ y text h. h) (λ y. refl)

code_again : (c : Span) → IsAgain IsCode (code_at c)
code_again c x text rest h =
    rw (bytes_again c h.1 text rest (h.0, h.2, h.4), whole_again (before c rest) (λ (x : CodeForm) (t : List ℕ). Both IsLocals IsExpr (x.locals, x.body) t) (code_parts_at (before c rest)) (code_parts_again (before c rest)) x h.1 h.3) refl

-- ---- sections

pub part_again : (c : Span) (k : SectionId) (p : Parts) (bytes : List ℕ) (q : Parts) → GivesPart k bytes p q → part_at c k p bytes ≡ Ok q
part_again c section.Type p bytes q h = rw (whole_again c (IsVec IsFuncType) (vec_at c (func_type_at c)) (vec_again c IsFuncType (func_type_at c) (func_type_again c)) h.0 bytes h.1, h.2) refl
part_again c section.Import p bytes q h = rw (whole_again c (IsVec IsImport) (vec_at c (import_at c)) (vec_again c IsImport (import_at c) (import_again c)) h.0 bytes h.1, h.2) refl
part_again c section.Function p bytes q h = rw (whole_again c (IsVec IsIndex) (vec_at c (index_at c)) (vec_again c IsIndex (index_at c) (index_again c)) h.0 bytes h.1, h.2) refl
part_again c section.Table p bytes q h = rw (whole_again c (IsVec IsTable) (vec_at c (table_type_at c)) (vec_again c IsTable (table_type_at c) (table_type_again c)) h.0 bytes h.1, h.2) refl
part_again c section.Memory p bytes q h = rw (whole_again c (IsVec IsMemory) (vec_at c (limits_at c 256)) (vec_again c IsMemory (limits_at c 256) (limits_again c 256)) h.0 bytes h.1, h.2) refl
part_again c section.Global p bytes q h = rw (whole_again c (IsVec IsGlobal) (vec_at c (global_at c)) (vec_again c IsGlobal (global_at c) (global_again c)) h.0 bytes h.1, h.2) refl
part_again c section.Export p bytes q h = rw (whole_again c (IsVec IsExport) (vec_at c (export_at c)) (vec_again c IsExport (export_at c) (export_again c)) h.0 bytes h.1, h.2) refl
part_again c section.Start p bytes q h = rw (whole_again c IsIndex (index_at c) (index_again c) h.0 bytes h.1, h.2) refl
part_again c section.Element p bytes q h = rw (whole_again c (IsVec IsElem) (vec_at c (elem_at c)) (vec_again c IsElem (elem_at c) (elem_again c)) h.0 bytes h.1, h.2) refl
part_again c section.Code p bytes q h =
    let count : index_at c bytes ≡ Ok (length h.0, h.1.1) = ap (index_at c) h.1.4 ∙ index_again c (length h.0) h.1.0 h.1.1 h.1.2 in
    let same : codes_by c p bytes (length h.0, h.1.1) ≡ Ok q =
    rw (eq-eqb (length h.0) (length p.type_indices) h.2, whole_again c (IsVec IsCode) (vec_at c (code_at c)) (vec_again c IsCode (code_at c) (code_again c)) h.0 bytes h.1, h.3) refl in
    ap (λ (r : Read ℕ). r >>= codes_by c p bytes) count ∙ same
part_again c section.Data p bytes q h = rw (whole_again c (IsVec IsData) (vec_at c (data_at c)) (vec_again c IsData (data_at c) (data_again c)) h.0 bytes h.1, h.2) refl
