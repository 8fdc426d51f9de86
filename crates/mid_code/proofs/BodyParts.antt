-- The functions of a script with their bodies, one at a time.
use Rattle.std.proofs.Common.{◌≡◌, ℕ, zero, suc, ◌+◌, ◌<◌, ◌≤◌, length, drop, get_or, map, List, [], ◌∷◌, ◌++◌, refl, ap, sym, ◌∙◌, add-one, arith}
use Rattle.std.proofs.lemmas.List.{append-nil}
use Rattle.std.specs.Borrow.{Bor}
use Rattle.awk_grammar.specs.Trees.{NoStmt}
use Rattle.awk_grammar.specs.ViewStmt.{view_stmts}
use Rattle.awk_grammar.specs.declared.tree.Stmt.{Stmt}
use Rattle.awk_resolve.specs.ViewFunctions.{view_functions}
use Rattle.awk_resolve.specs.ViewKinds.{view_name_kinds}
use Rattle.awk_resolve.specs.declared.function_names.FunctionNames.{FunctionNames}
use Rattle.sem_scripts.specs.Kinds.{with_bodies}
use Rattle.sem_scripts.specs.Names.{Function}
use Rattle.mid_program.specs.Texts.{functions_texts, stmts_texts}
use Rattle.mid_code.specs.ViewBodies.{body_in}
use Rattle.mid_code.specs.ViewNames.{view_bodies}

pub body_is : (bs : List (Bor (List Stmt))) (i : ℕ) (d : Bor (List Stmt)) → i < length bs → view_stmts (get_or bs i d).now ≡ body_in (view_bodies bs) i
body_is [] i d lt = absurd (omega arith)
body_is (b ∷ bs) zero d lt = refl
body_is (b ∷ bs) (suc i) d lt = body_is bs i d (omega arith)

pub body_past : (bs : List (Bor (List Stmt))) (i : ℕ) → length bs ≤ i → NoStmt ≡ body_in (view_bodies bs) i
body_past [] i le = refl
body_past (b ∷ bs) zero le = absurd (omega arith)
body_past (b ∷ bs) (suc i) le = body_past bs i (omega arith)

-- a function with the body of its number
abbrev pub with_body : FunctionNames → List (Bor (List Stmt)) → ℕ → Function
with_body f bs i = record { name = f.name.now; parameters = view_name_kinds f.parameters.items; body = body_in (view_bodies bs) i }

first_pair : (f : FunctionNames) (fs : List FunctionNames) (bs : List (Bor (List Stmt))) (i : ℕ) →
    with_bodies (view_functions (f ∷ fs)) (view_bodies (drop i bs)) ≡ with_body f bs i ∷ with_bodies (view_functions fs) (view_bodies (drop (suc i) bs))
first_pair f fs [] zero = refl
first_pair f fs [] (suc i) = refl
first_pair f fs (b ∷ bs) zero = refl
first_pair f fs (b ∷ bs) (suc i) = first_pair f fs bs i

pub first_body : (f : FunctionNames) (fs : List FunctionNames) (bs : List (Bor (List Stmt))) (i : ℕ) →
    with_bodies (view_functions (f ∷ fs)) (view_bodies (drop i bs)) ≡ with_body f bs i ∷ with_bodies (view_functions fs) (view_bodies (drop (i + 1) bs))
first_body f fs bs i = first_pair f fs bs i ∙ ap (λ (j : ℕ). with_body f bs i ∷ with_bodies (view_functions fs) (view_bodies (drop j bs))) (sym (add-one i))

first_left : (fs : List FunctionNames) (i : ℕ) → i < length fs → (f : FunctionNames) × (drop i fs ≡ f ∷ drop (suc i) fs)
first_left [] i lt = absurd (omega arith)
first_left (f ∷ fs) zero lt = (f, refl)
first_left (f ∷ fs) (suc i) lt = first_left fs i (omega arith)

pub texts_at : (fs : List FunctionNames) (bs : List (Bor (List Stmt))) (i : ℕ) → i < length fs →
    functions_texts (with_bodies (view_functions (drop i fs)) (view_bodies (drop i bs)))
    ≡ stmts_texts (body_in (view_bodies bs) i) ++ functions_texts (with_bodies (view_functions (drop (i + 1) fs)) (view_bodies (drop (i + 1) bs)))
texts_at fs bs i lt =
    let f = first_left fs i lt in
    ap (λ (gs : List FunctionNames). functions_texts (with_bodies (view_functions gs) (view_bodies (drop i bs)))) (f.1 ∙ ap (λ (j : ℕ). f.0 ∷ drop j fs) (sym (add-one i)))
    ∙ ap functions_texts (first_body f.0 (drop (i + 1) fs) bs i)

pub map_push : {A B : Type 0} (f : A → B) (xs : List A) (x : A) (rest : List B) → map f (xs ++ x ∷ []) ++ rest ≡ map f xs ++ (f x ∷ rest)
map_push f [] x rest = refl
map_push {A} {B} f (y ∷ ys) x rest = ap (λ (zs : List B). f y ∷ zs) (map_push f ys x rest)

-- a list that is made by pushing what stands for the first of what is left
pub pushed : {A B : Type 0} (v : A → B) (old new : List A) (x : A) (rest all total : List B) → new ≡ old ++ x ∷ [] → v x ∷ rest ≡ all → map v old ++ all ≡ total → map v new ++ rest ≡ total
pushed {A} {B} v old new x rest all total more so is =
    ap (λ (xs : List A). map v xs ++ rest) more ∙ map_push v old x rest ∙ ap (λ (ks : List B). map v old ++ ks) so ∙ is

-- where nothing is left it is all there
pub all_pushed : {B : Type 0} (found rest total : List B) → rest ≡ [] → found ++ rest ≡ total → found ≡ total
all_pushed {B} found rest total none is = sym (append-nil found) ∙ sym (ap (λ (ks : List B). found ++ ks) none) ∙ is
