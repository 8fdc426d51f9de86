-- Exports, imports and segments one by one, and all of a module's.
use Rattle.std.proofs.Common.{◌≡◌, ◌<◌, ◌≤◌, ◌+◌, ℕ, zero, suc, List, [], ◌∷◌, ◌++◌, Option, Some, None, Bool, true, false, map, length, take, get_or, refl, sym, ap, subst, ◌∙◌, arith, add-one, if◌then◌else◌}
use Rattle.std.specs.Prelude.{◌↔◌, ◌&&◌, IsTrue}
use Rattle.std.specs.List.{All}
use Rattle.std.proofs.lemmas.Bool.{and_parts}
use Rattle.std.proofs.lemmas.List.{get_or-map, length-map, length-append, length-take-le, length-drop, take_more, map-append}
use Rattle.std.proofs.lemmas.List.Elements.{All-map}
use Rattle.wasm_types.specs.declared.module.Elem.{Elem}
use Rattle.wasm_types.specs.declared.module.Data.{Data}
use Rattle.wasm_types.specs.Syntax.{Signature, ImportForm, ModuleForm, ElemForm, DataForm}
use Rattle.wasm_types.specs.Typing.{typed_in}
use Rattle.wasm_types.specs.View.{view_elem, view_data}
use Rattle.wasm_store.specs.Memories.{MemoryForm, written}
use Rattle.wasm_store.specs.Tables.{with_functions}
use Rattle.wasm_model.specs.Hosts.{Finds}
use Rattle.wasm_model.specs.Links.{first_some, first_none, number_for, number_if, filled, poured, place_of}
use Rattle.wasm_model.specs.Machines.{agree}

pub first_some_map : {A B C : Type 0} (f : A → Option B) (g : C → A) (xs : List C) → first_some (λ x. f (g x)) xs ≡ first_some f (map g xs)
first_some_map f g [] = refl
first_some_map {B = B} f g (x ∷ xs) = ap (λ (o : Option B). elim (f (g x)) [ Some y ↦ Some y | None ↦ o ]) (first_some_map f g xs)

-- the first element for which there is nothing
pub missing_at : {A : Type 0} (g : A → Option ℕ) (xs : List A) (i : ℕ) (ns : List ℕ) (x : A) → i < length xs → x ≡ get_or xs i x → map g (take i xs) ≡ map Some ns → g x ≡ None → first_none (map g xs) ≡ Some i
missing_at g [] i ns x lt e m n = absurd (omega (arith, lt))
missing_at g (y ∷ ys) zero ns x lt e m n = ap (λ (o : Option ℕ). first_none (o ∷ map g ys)) (ap g (sym e) ∙ n)
missing_at g (y ∷ ys) (suc i) [] x lt e m n = cc
missing_at g (y ∷ ys) (suc i) (k ∷ ns) x lt e m n =
    let h : g y ≡ Some k = cc in
    let t : map g (take i ys) ≡ map Some ns = cc in
    ap (λ (o : Option ℕ). first_none (o ∷ map g ys)) h ∙ (ap (λ (o : Option ℕ). elim o [ None ↦ None | Some j ↦ Some (j + 1) ]) (missing_at g ys i ns x (omega (arith, lt)) e t n) ∙ ap Some (add-one i))

pub number_is : (F : Finds) (m : ModuleForm) (x : ImportForm) (r : ℕ × Signature) (b : Bool) → Some r ≡ F x.from x.name → b ≡ agree (Some r.1) (typed_in m x.ty) → number_for F m x ≡ (if b then Some r.0 else None)
number_is F m x r b e h = ap (number_if m x.ty) (sym e) ∙ ap (λ (z : Bool). if z then Some r.0 else None) (sym h)

pub all_of_map : {X Y : Type 0} (P : X → Type 0) (f : Y → X) (ys : List Y) → All P (map f ys) → All (λ y. P (f y)) ys
all_of_map P f ys h k d lt = subst P (get_or-map f ys k d (f d) lt) (h k (f d) (let same = length-map ys f in omega arith))

-- a test of the code's list decides a fact of the plain data's
pub mapped : {X Y : Type 0} (P : X → Type 0) (f : Y → X) (ys : List Y) (b : Bool) → IsTrue b ↔ All (λ y. P (f y)) ys → IsTrue b ↔ All P (map f ys)
mapped P f ys b h = (λ t. All-map P f ys (h.0 t), λ all. h.1 (all_of_map P f ys all))

pub both : (a b : Bool) {P Q : Type 0} → IsTrue a ↔ P → IsTrue b ↔ Q → IsTrue (a && b) ↔ (P × Q)
both a b p q = (λ t. let parts = and_parts a b t in (p.0 parts.0, q.0 parts.1), λ h. joined a b (p.1 h.0) (q.1 h.1)) where
  joined : (a b : Bool) → a ≡ true → b ≡ true → (a && b) ≡ true
  joined true b e f = f
  joined false b e f = cc

-- a segment that fits leaves the length
pub length_with : (t : List (Option ℕ)) (at : ℕ) (fs : List ℕ) → at + length fs ≤ length t → length (with_functions t at fs) ≡ length t
length_with t at fs h = simp (length-append, length-map, length-drop) (let k = length-take-le at t (omega (arith, h)) in omega (arith, h, k))

pub length_written : (bs : List ℕ) (at : ℕ) (new : List ℕ) → at + length new ≤ length bs → length (written bs at new) ≡ length bs
length_written bs at new h = simp (length-append, length-drop) (let k = length-take-le at bs (omega (arith, h)) in omega (arith, h, k))

filled_push : (t : List (Option ℕ)) (es : List ElemForm) (e : ElemForm) → filled t (es ++ e ∷ []) ≡ with_functions (filled t es) (place_of e.offset) e.init
filled_push t [] e = refl
filled_push t (x ∷ es) e = filled_push (with_functions t (place_of x.offset) x.init) es e

pub filled_more : (t : List (Option ℕ)) (es : List Elem) (i : ℕ) (e : Elem) → i < length es → e ≡ get_or es i e → filled t (map view_elem (take (i + 1) es)) ≡ with_functions (filled t (map view_elem (take i es))) (place_of (view_elem e).offset) (view_elem e).init
filled_more t es i e lt q =
    ap (λ (xs : List Elem). filled t (map view_elem xs)) (take_more es i e lt ∙ ap (λ (x : Elem). take i es ++ x ∷ []) (sym q))
    ∙ (ap (λ (xs : List ElemForm). filled t xs) (map-append view_elem (take i es) (e ∷ [])) ∙ filled_push t (map view_elem (take i es)) (view_elem e))

poured_push : (m : MemoryForm) (ds : List DataForm) (d : DataForm) → poured m (ds ++ d ∷ []) ≡ record (poured m ds) { bytes = written (poured m ds).bytes (place_of d.offset) d.init }
poured_push m [] d = refl
poured_push m (x ∷ ds) d = poured_push (record m { bytes = written m.bytes (place_of x.offset) x.init }) ds d

pub poured_more : (m : MemoryForm) (ds : List Data) (i : ℕ) (d : Data) → i < length ds → d ≡ get_or ds i d → poured m (map view_data (take (i + 1) ds)) ≡ record (poured m (map view_data (take i ds))) { bytes = written (poured m (map view_data (take i ds))).bytes (place_of (view_data d).offset) (view_data d).init }
poured_more m ds i d lt q =
    ap (λ (xs : List Data). poured m (map view_data xs)) (take_more ds i d lt ∙ ap (λ (x : Data). take i ds ++ x ∷ []) (sym q))
    ∙ (ap (λ (xs : List DataForm). poured m xs) (map-append view_data (take i ds) (d ∷ [])) ∙ poured_push m (map view_data (take i ds)) (view_data d))
