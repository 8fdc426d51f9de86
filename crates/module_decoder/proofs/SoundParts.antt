-- What is read of the parts and sections of a module is spelled so.
use Rattle.std.proofs.Common.{◌≡◌, ℕ, zero, suc, ◌-◌, ◌≤◌, Bool, true, false, cond, leb, List, [], ◌∷◌, ◌++◌, length, replicate, Some, None, Ok, refl, sym, ap, subst, ◌∙◌, append_assoc, arith, nat_eq, length-append}
use Rattle.std.proofs.lemmas.Bool.{eqb-true, leb-true}
use Rattle.std.proofs.lemmas.List.{length-replicate}
use Rattle.wasm_types.specs.declared.types.ValType.{ValType}
use Rattle.wasm_types.specs.declared.types.Limits.{Limits}
use Rattle.wasm_types.specs.declared.module.ExportDesc.{ExportDesc}
use Rattle.wasm_types.specs.declared.module.ExportDesc.TheVariants as export
use Rattle.wasm_types.specs.declared.module.SectionId.{SectionId}
use Rattle.wasm_types.specs.declared.module.SectionId.TheVariants as section
use Rattle.wasm_types.specs.Leb128.{IsU32}
use Rattle.wasm_types.specs.Instructions.{Both, Each, Tagged, IsIndex, IsValType, IsExpr}
use Rattle.wasm_types.specs.ModuleGrammar.{IsBytes, IsName, IsFuncType, IsImport, IsLimits, IsTable, IsMemory, mut_code, IsGlobalType, IsGlobal, IsExportDesc, IsExport, IsElem, IsData, expanded, IsLocals, CodeForm, IsCode, Parts, GivesPart}
use Rattle.module_decoder.specs.declared.fault.DecodeFault.TheVariants.{BadSection, TooLarge}
use Rattle.module_decoder.specs.declared.basics.Span.{Span}
use Rattle.module_decoder.specs.Readers.{◌>>=◌, each_at, mapped, malformed, index_at, vec_at, ended_by, ended, whole, bytes_at}
use Rattle.module_decoder.specs.Reading.{val_type_at, func_type_at, import_at, within, min_at, max_at, limits_by, limits_at, table_type_at, mut_at, global_type_at, global_at, export_desc_at, export_at, elem_at, data_at, run_by, runs_at, locals_at, code_parts_at, before, code_in, code_at, codes_by, part_at}
use Rattle.module_decoder.proofs.Sound.{bind_ok, ok_is, err_ok, passed, Takes, IsSound, both_sound, each_sound, mapped_sound, index_sound, vec_sound, option_sound, tagged_sound, whole_sound, bytes_sound, name_sound}
use Rattle.module_decoder.proofs.SoundBody.{val_type_sound, expr_sound}

func_type_sound : (c : Span) → IsSound IsFuncType (func_type_at c)
func_type_sound c = mapped_sound _ IsFuncType _ _ (tagged_sound c 0x60 _ _ (both_sound _ _ _ _ (vec_sound c IsValType _ (val_type_sound c)) (option_sound c IsValType _ (val_type_sound c)))) (λ x text h. h)

import_sound : (c : Span) → IsSound IsImport (import_at c)
import_sound c = mapped_sound _ IsImport _ _ (both_sound IsName _ _ _ (name_sound c) (both_sound IsName _ _ _ (name_sound c) (tagged_sound c 0x00 IsIndex _ (index_sound c)))) (λ x text h. h)

min_sound : (c : Span) (most : ℕ) (bytes : List ℕ) (x : ℕ × List ℕ) → min_at c most bytes ≡ Ok x → (x.0 ≤ most) × Takes IsIndex bytes x
min_sound c most bytes x e =
    let a = bind_ok (index_at c bytes) (within most) x e in
    let p = passed (leb a.0.0 most) (Ok a.0) TooLarge x a.2 in
    subst (λ (y : ℕ × List ℕ). (y.0 ≤ most) × Takes IsIndex bytes y) (ok_is a.0 x p.1) (leb-true a.0.0 most p.0, index_sound c bytes a.0 a.1)

limits_by_sound : (c : Span) (most b : ℕ) (bytes : List ℕ) (x : Limits × List ℕ) → limits_by c most b bytes ≡ Ok x → Takes (IsLimits most) (b ∷ bytes) x
limits_by_sound c most b bytes x e = zero_by (nat_eq b 0) refl e
  where
    one_by : (k : Bool) → nat_eq b 1 ≡ k → cond k (min_at c most bytes >>= λ n. max_at c n.0 n.1) (malformed c) ≡ Ok x → Takes (IsLimits most) (b ∷ bytes) x
    one_by true q f =
        let a = bind_ok (min_at c most bytes) (λ n. max_at c n.0 n.1) x f in
        let d = bind_ok (index_at c a.0.1) (λ n. Ok (record { min = a.0.0; max = Some n.0 }, n.1)) x a.2 in
        let m = min_sound c most bytes a.0 a.1 in
        let t = m.1 in
        let u = index_sound c a.0.1 d.0 d.1 in
        subst (Takes (IsLimits most) (b ∷ bytes)) (ok_is (record { min = a.0.0; max = Some d.0.0 }, d.0.1) x d.2)
        (0x01 ∷ t.0 ++ u.0, (m.0, (t.0 ++ u.0, (t.0, u.0, t.1, u.1, refl), refl)), ap (λ (n : ℕ). n ∷ bytes) (eqb-true b 1 q) ∙ ap (λ (v : List ℕ). 0x01 ∷ v) (t.2 ∙ ap (λ (v : List ℕ). t.0 ++ v) u.2 ∙ sym (append_assoc t.0 u.0 d.0.1)))
    one_by false q f = absurd (err_ok (BadSection c.section) x f)

    zero_by : (k : Bool) → nat_eq b 0 ≡ k → cond k (min_at c most bytes >>= λ n. Ok (record { min = n.0; max = None }, n.1)) (cond (nat_eq b 1) (min_at c most bytes >>= λ n. max_at c n.0 n.1) (malformed c)) ≡ Ok x → Takes (IsLimits most) (b ∷ bytes) x
    zero_by true q f =
        let a = bind_ok (min_at c most bytes) (λ n. Ok (record { min = n.0; max = None }, n.1)) x f in
        let m = min_sound c most bytes a.0 a.1 in
        let t = m.1 in
        subst (Takes (IsLimits most) (b ∷ bytes)) (ok_is (record { min = a.0.0; max = None }, a.0.1) x a.2)
        (0x00 ∷ t.0, (m.0, (t.0, t.1, refl)), ap (λ (n : ℕ). n ∷ bytes) (eqb-true b 0 q) ∙ ap (λ (v : List ℕ). 0x00 ∷ v) t.2)
    zero_by false q f = one_by (nat_eq b 1) refl f

limits_sound : (c : Span) (most : ℕ) → IsSound (IsLimits most) (limits_at c most)
limits_sound c most [] x e = absurd (err_ok (BadSection c.section) x e)
limits_sound c most (b ∷ bytes) x e = limits_by_sound c most b bytes x e

table_type_sound : (c : Span) → IsSound IsTable (table_type_at c)
table_type_sound c = tagged_sound c 0x70 (IsLimits 65536) _ (limits_sound c 65536)

mut_sound : (c : Span) → IsSound (λ m t. t ≡ mut_code m ∷ []) (mut_at c)
mut_sound c [] x e = absurd (err_ok (BadSection c.section) x e)
mut_sound c (b ∷ bytes) x e = zero_by (nat_eq b 0) refl e
  where
    one_by : (k : Bool) → nat_eq b 1 ≡ k → cond k (Ok (true, bytes)) (malformed c) ≡ Ok x → Takes (λ m t. t ≡ mut_code m ∷ []) (b ∷ bytes) x
    one_by true q f = subst (Takes (λ m t. t ≡ mut_code m ∷ []) (b ∷ bytes)) (ok_is (true, bytes) x f) (0x01 ∷ [], refl, ap (λ (n : ℕ). n ∷ bytes) (eqb-true b 1 q))
    one_by false q f = absurd (err_ok (BadSection c.section) x f)

    zero_by : (k : Bool) → nat_eq b 0 ≡ k → cond k (Ok (false, bytes)) (cond (nat_eq b 1) (Ok (true, bytes)) (malformed c)) ≡ Ok x → Takes (λ m t. t ≡ mut_code m ∷ []) (b ∷ bytes) x
    zero_by true q f = subst (Takes (λ m t. t ≡ mut_code m ∷ []) (b ∷ bytes)) (ok_is (false, bytes) x f) (0x00 ∷ [], refl, ap (λ (n : ℕ). n ∷ bytes) (eqb-true b 0 q))
    zero_by false q f = one_by (nat_eq b 1) refl f

global_type_sound : (c : Span) → IsSound IsGlobalType (global_type_at c)
global_type_sound c = mapped_sound (Both IsValType (λ m t. t ≡ mut_code m ∷ [])) IsGlobalType _ _ (both_sound IsValType _ _ _ (val_type_sound c) (mut_sound c)) (λ x text h. h.4 ∙ rw (h.2, h.3) refl)

global_sound : (c : Span) → IsSound IsGlobal (global_at c)
global_sound c = mapped_sound _ IsGlobal _ _ (both_sound IsGlobalType IsExpr _ _ (global_type_sound c) (expr_sound c)) (λ x text h. h)

-- an index behind the byte of its kind
desc_sound : (c : Span) (f : ℕ → ExportDesc) (k : ℕ) → ((n : ℕ) (t : List ℕ) → Tagged k IsIndex n t → IsExportDesc (f n) t) → (bytes : List ℕ) (x : ExportDesc × List ℕ) → mapped f (index_at c) bytes ≡ Ok x → Takes IsExportDesc (k ∷ bytes) x
desc_sound c f k h bytes x e =
    let a = bind_ok (index_at c bytes) (λ n. Ok (f n.0, n.1)) x e in
    let t = index_sound c bytes a.0 a.1 in
    subst (Takes IsExportDesc (k ∷ bytes)) (ok_is (f a.0.0, a.0.1) x a.2) (k ∷ t.0, h a.0.0 (k ∷ t.0) (t.0, t.1, refl), ap (λ (u : List ℕ). k ∷ u) t.2)

export_desc_sound : (c : Span) → IsSound IsExportDesc (export_desc_at c)
export_desc_sound c [] x e = absurd (err_ok (BadSection c.section) x e)
export_desc_sound c (b ∷ bytes) x e = by0 (nat_eq b 0) refl e
  where
    is : (k : ℕ) → nat_eq b k ≡ true → Takes IsExportDesc (k ∷ bytes) x → Takes IsExportDesc (b ∷ bytes) x
    is k q h = subst (λ (n : ℕ). Takes IsExportDesc (n ∷ bytes) x) (sym (eqb-true b k q)) h

    by3 : (k : Bool) → nat_eq b 3 ≡ k → cond k (mapped export.Global (index_at c) bytes) (malformed c) ≡ Ok x → Takes IsExportDesc (b ∷ bytes) x
    by3 true q f = is 3 q (desc_sound c export.Global 3 (λ n t h. h) bytes x f)
    by3 false q f = absurd (err_ok (BadSection c.section) x f)

    by2 : (k : Bool) → nat_eq b 2 ≡ k → cond k (mapped export.Memory (index_at c) bytes) (cond (nat_eq b 3) (mapped export.Global (index_at c) bytes) (malformed c)) ≡ Ok x → Takes IsExportDesc (b ∷ bytes) x
    by2 true q f = is 2 q (desc_sound c export.Memory 2 (λ n t h. h) bytes x f)
    by2 false q f = by3 (nat_eq b 3) refl f

    by1 : (k : Bool) → nat_eq b 1 ≡ k → cond k (mapped export.Table (index_at c) bytes) (cond (nat_eq b 2) (mapped export.Memory (index_at c) bytes) (cond (nat_eq b 3) (mapped export.Global (index_at c) bytes) (malformed c))) ≡ Ok x → Takes IsExportDesc (b ∷ bytes) x
    by1 true q f = is 1 q (desc_sound c export.Table 1 (λ n t h. h) bytes x f)
    by1 false q f = by2 (nat_eq b 2) refl f

    by0 : (k : Bool) → nat_eq b 0 ≡ k → cond k (mapped export.Func (index_at c) bytes) (cond (nat_eq b 1) (mapped export.Table (index_at c) bytes) (cond (nat_eq b 2) (mapped export.Memory (index_at c) bytes) (cond (nat_eq b 3) (mapped export.Global (index_at c) bytes) (malformed c)))) ≡ Ok x → Takes IsExportDesc (b ∷ bytes) x
    by0 true q f = is 0 q (desc_sound c export.Func 0 (λ n t h. h) bytes x f)
    by0 false q f = by1 (nat_eq b 1) refl f

export_sound : (c : Span) → IsSound IsExport (export_at c)
export_sound c = mapped_sound _ IsExport _ _ (both_sound IsName IsExportDesc _ _ (name_sound c) (export_desc_sound c)) (λ x text h. h)

elem_sound : (c : Span) → IsSound IsElem (elem_at c)
elem_sound c = mapped_sound _ IsElem _ _ (both_sound IsIndex _ _ _ (index_sound c) (both_sound IsExpr _ _ _ (expr_sound c) (vec_sound c IsIndex _ (index_sound c)))) (λ x text h. h)

data_sound : (c : Span) → IsSound IsData (data_at c)
data_sound c = mapped_sound _ IsData _ _ (both_sound IsIndex _ _ _ (index_sound c) (both_sound IsExpr IsBytes _ _ (expr_sound c) (bytes_sound c))) (λ x text h. h)

-- ---- code

record Runs (n left : ℕ) (bytes : List ℕ) (x : List ValType × List ℕ) : Type 0 where
  runs : List (ℕ × ValType)
  count : length runs ≡ n
  text : List ℕ
  each : Each (Both IsIndex IsValType) runs text
  parts : bytes ≡ text ++ x.1
  types : x.0 ≡ expanded runs
  room : length x.0 ≤ left

spread : (a b c d : List ℕ) → a ++ (b ++ (c ++ d)) ≡ ((a ++ b) ++ c) ++ d
spread a b c d = sym (append_assoc a b (c ++ d)) ∙ sym (append_assoc (a ++ b) c d)

runs_sound : (c : Span) (n left : ℕ) (bytes : List ℕ) (x : List ValType × List ℕ) → runs_at c n left bytes ≡ Ok x → Runs n left bytes x
runs_sound c zero left bytes x e = subst (Runs 0 left bytes) (ok_is ([], bytes) x e) (record { runs = []; count = refl; text = []; each = refl; parts = refl; types = refl; room = omega arith })
runs_sound c (suc n) left bytes x e =
    let a = bind_ok (index_at c bytes) (run_by c (runs_at c n) left) x e in
    let p = passed (leb a.0.0 left) (val_type_at c a.0.1 >>= λ t. runs_at c n (left - a.0.0) t.1 >>= λ y. Ok (replicate a.0.0 t.0 ++ y.0, y.1)) TooLarge x a.2 in
    let d = bind_ok (val_type_at c a.0.1) (λ t. runs_at c n (left - a.0.0) t.1 >>= λ y. Ok (replicate a.0.0 t.0 ++ y.0, y.1)) x p.1 in
    let b = bind_ok (runs_at c n (left - a.0.0) d.0.1) (λ y. Ok (replicate a.0.0 d.0.0 ++ y.0, y.1)) x d.2 in
    let h = index_sound c bytes a.0 a.1 in
    let g = val_type_sound c a.0.1 d.0 d.1 in
    let u = runs_sound c n (left - a.0.0) d.0.1 b.0 b.1 in
    let small = leb-true a.0.0 left p.0 in
    subst (Runs (suc n) left bytes) (ok_is (replicate a.0.0 d.0.0 ++ b.0.0, b.0.1) x b.2)
    (record {
      runs = (a.0.0, d.0.0) ∷ u.runs;
      count = ap suc u.count;
      text = (h.0 ++ g.0) ++ u.text;
      each = (h.0 ++ g.0, u.text, (h.0, g.0, h.1, g.1, refl), u.each, refl);
      parts = h.2 ∙ ap (λ (v : List ℕ). h.0 ++ v) (g.2 ∙ ap (λ (v : List ℕ). g.0 ++ v) u.parts) ∙ spread h.0 g.0 u.text b.0.1;
      types = ap (λ (v : List ValType). replicate a.0.0 d.0.0 ++ v) u.types;
      room = omega (arith, small, u.room, length-append (replicate a.0.0 d.0.0) b.0.0, length-replicate a.0.0 d.0.0);
    })

locals_sound : (c : Span) → IsSound IsLocals (locals_at c)
locals_sound c bytes x e =
    let a = bind_ok (index_at c bytes) (λ n. runs_at c n.0 50000 n.1) x e in
    let t = index_sound c bytes a.0 a.1 in
    let u = runs_sound c a.0.0 50000 a.0.1 x a.2 in
    (t.0 ++ u.text, (u.runs, (t.0, u.text, subst (IsU32 t.0) (sym u.count) t.1, u.each, refl), u.types, u.room), t.2 ∙ ap (λ (v : List ℕ). t.0 ++ v) u.parts ∙ sym (append_assoc t.0 u.text x.1))

code_parts_sound : (c : Span) → IsSound (λ x t. Both IsLocals IsExpr (x.locals, x.body) t) (code_parts_at c)
code_parts_sound c = mapped_sound _ (λ (x : CodeForm) (t : List ℕ). Both IsLocals IsExpr (x.locals, x.body) t) _ _ (both_sound IsLocals IsExpr _ _ (locals_sound c) (expr_sound c)) (λ x text h. h)

code_sound : (c : Span) → IsSound IsCode (code_at c)
code_sound c bytes x e =
    let a = bind_ok (bytes_at c bytes) (code_in c) x e in
    let b = bind_ok (whole (before c a.0.1) (code_parts_at (before c a.0.1)) a.0.0) (λ y. Ok (y, a.0.1)) x a.2 in
    let t = bytes_sound c bytes a.0 a.1 in
    let u = whole_sound (before c a.0.1) _ _ (code_parts_sound (before c a.0.1)) a.0.0 b.0 b.1 in
    subst (Takes IsCode bytes) (ok_is (b.0, a.0.1) x b.2) (t.0, (t.1.0, a.0.0, t.1.1, u, t.1.2), t.2)

-- ---- sections

-- the number before codes is theirs
codes_counted : (c : Span) (bytes : List ℕ) (xs : List CodeForm) (n : ℕ × List ℕ) → index_at c bytes ≡ Ok n → whole c (vec_at c (code_at c)) bytes ≡ Ok xs → n.0 ≡ length xs
codes_counted c bytes xs n h e =
    let v = bind_ok (vec_at c (code_at c) bytes) (ended c) xs e in
    let i = bind_ok (index_at c bytes) (λ m. each_at (code_at c) m.0 m.1) v.0 v.1 in
    let k = each_sound IsCode (code_at c) (code_sound c) i.0.0 i.0.1 v.0 i.2 in
    let u = bind_ok (ended_by c v.0.1) (λ o. Ok v.0.0) xs v.2 in
    ap (λ (m : ℕ × List ℕ). m.0) (ok_is n i.0 (sym h ∙ i.1)) ∙ sym k.0 ∙ ap length (ok_is v.0.0 xs u.2)

pub part_sound : (c : Span) (k : SectionId) (p : Parts) (bytes : List ℕ) (q : Parts) → part_at c k p bytes ≡ Ok q → GivesPart k bytes p q
part_sound c section.Type p bytes q e =
    let a = bind_ok (whole c (vec_at c (func_type_at c)) bytes) (λ xs. Ok (record p { types = xs })) q e in
    (a.0, whole_sound c _ _ (vec_sound c IsFuncType _ (func_type_sound c)) bytes a.0 a.1, sym (ok_is (record p { types = a.0 }) q a.2))
part_sound c section.Import p bytes q e =
    let a = bind_ok (whole c (vec_at c (import_at c)) bytes) (λ xs. Ok (record p { imports = xs })) q e in
    (a.0, whole_sound c _ _ (vec_sound c IsImport _ (import_sound c)) bytes a.0 a.1, sym (ok_is (record p { imports = a.0 }) q a.2))
part_sound c section.Function p bytes q e =
    let a = bind_ok (whole c (vec_at c (index_at c)) bytes) (λ xs. Ok (record p { type_indices = xs })) q e in
    (a.0, whole_sound c _ _ (vec_sound c IsIndex _ (index_sound c)) bytes a.0 a.1, sym (ok_is (record p { type_indices = a.0 }) q a.2))
part_sound c section.Table p bytes q e =
    let a = bind_ok (whole c (vec_at c (table_type_at c)) bytes) (λ xs. Ok (record p { tables = xs })) q e in
    (a.0, whole_sound c _ _ (vec_sound c IsTable _ (table_type_sound c)) bytes a.0 a.1, sym (ok_is (record p { tables = a.0 }) q a.2))
part_sound c section.Memory p bytes q e =
    let a = bind_ok (whole c (vec_at c (limits_at c 256)) bytes) (λ xs. Ok (record p { memories = xs })) q e in
    (a.0, whole_sound c _ _ (vec_sound c IsMemory _ (limits_sound c 256)) bytes a.0 a.1, sym (ok_is (record p { memories = a.0 }) q a.2))
part_sound c section.Global p bytes q e =
    let a = bind_ok (whole c (vec_at c (global_at c)) bytes) (λ xs. Ok (record p { globals = xs })) q e in
    (a.0, whole_sound c _ _ (vec_sound c IsGlobal _ (global_sound c)) bytes a.0 a.1, sym (ok_is (record p { globals = a.0 }) q a.2))
part_sound c section.Export p bytes q e =
    let a = bind_ok (whole c (vec_at c (export_at c)) bytes) (λ xs. Ok (record p { exports = xs })) q e in
    (a.0, whole_sound c _ _ (vec_sound c IsExport _ (export_sound c)) bytes a.0 a.1, sym (ok_is (record p { exports = a.0 }) q a.2))
part_sound c section.Start p bytes q e =
    let a = bind_ok (whole c (index_at c) bytes) (λ x. Ok (record p { start = Some x })) q e in
    (a.0, whole_sound c IsIndex _ (index_sound c) bytes a.0 a.1, sym (ok_is (record p { start = Some a.0 }) q a.2))
part_sound c section.Element p bytes q e =
    let a = bind_ok (whole c (vec_at c (elem_at c)) bytes) (λ xs. Ok (record p { elems = xs })) q e in
    (a.0, whole_sound c _ _ (vec_sound c IsElem _ (elem_sound c)) bytes a.0 a.1, sym (ok_is (record p { elems = a.0 }) q a.2))
part_sound c section.Code p bytes q e =
    let n = bind_ok (index_at c bytes) (codes_by c p bytes) q e in
    let t = passed (nat_eq n.0.0 (length p.type_indices)) (whole c (vec_at c (code_at c)) bytes >>= λ xs. Ok (record p { codes = xs })) (BadSection c.section) q n.2 in
    let a = bind_ok (whole c (vec_at c (code_at c)) bytes) (λ xs. Ok (record p { codes = xs })) q t.1 in
    let count = sym (codes_counted c bytes a.0 n.0 n.1 a.1) ∙ eqb-true n.0.0 (length p.type_indices) t.0 in
    (a.0, whole_sound c _ _ (vec_sound c IsCode _ (code_sound c)) bytes a.0 a.1, count, sym (ok_is (record p { codes = a.0 }) q a.2))
part_sound c section.Data p bytes q e =
    let a = bind_ok (whole c (vec_at c (data_at c)) bytes) (λ xs. Ok (record p { data_segments = xs })) q e in
    (a.0, whole_sound c _ _ (vec_sound c IsData _ (data_sound c)) bytes a.0 a.1, sym (ok_is (record p { data_segments = a.0 }) q a.2))
