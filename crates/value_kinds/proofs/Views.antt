-- Lists that are written anew, element by element.
use Rattle.std.proofs.Common.{◌≡◌, ℕ, zero, suc, false, ◌+◌, ◌<◌, ◌≤◌, Bool, List, [], ◌∷◌, length, map, get_or, set, take, drop, ◌++◌, append_assoc, Option, None, add-one, refl, sym, ap, subst, ◌∙◌, arith}
use Rattle.std.proofs.Math.Seq.{drop-cons, take-append_seam}
use Rattle.std.proofs.lemmas.List.{get_or-set_other, length-set, map-append}
use Rattle.std.specs.declared.vec.Vec.{Vec}
use Rattle.std.specs.declared.boxed.Box.{Box}
use Rattle.std.specs.declared.alloc.Global.{Global}
use Rattle.sem_primitives.specs.declared.table.Listed.{Listed}
use Rattle.mid_program.specs.Mid as plain
use Rattle.mid_program.specs.ViewCode.{before, view, view_row, view_step, view_step_row, view_steps, views}
use Rattle.mid_program.specs.declared.mid.Operation.{Operation}
use Rattle.mid_program.specs.declared.code.Operand.{Operand}
use Rattle.mid_program.specs.declared.code.Operand.TheVariants as operand
use Rattle.mid_program.specs.declared.code.Code.{Code, Do, Over, Call, Replace, Row_of-Operand, end_of-Operand, more_of-Operand, items-the_row-Operand, items_hidden-the_row-Operand-0}
use Rattle.mid_program.specs.declared.code.Code.TheBlock.{hidden-the_row-Operand-0}
use Rattle.mid_program.specs.declared.step.Step.{Step, Block, Row_of-Step, end_of-Step, more_of-Step, items-the_row-Step, items_hidden-the_row-Step-0}
use Rattle.mid_program.specs.declared.step.Step.TheBlock.{hidden-the_row-Step-0}
use Rattle.mid_program.specs.View.{view_routine}
use Rattle.mid_program.specs.declared.program.Routine.{Routine}
use Rattle.mid_program.specs.Rewriting.{code_in, codes_in, step_in, steps_in}
use Rattle.mid_program.specs.declared.program.Declared.{Declared}
use Rattle.mid_program.specs.declared.program.Kind.{Kind}
use Rattle.mid_program.specs.View.{view_declared, view_kind, view_routine}
use Rattle.mid_program.specs.Sorted.{lender_at, same_kind}
use Rattle.value_kinds.specs.Applied.{global_with, globals_with, is_unboxed, kind_with, kinds_with, routine_with, routines_with}
use Rattle.value_kinds.specs.Lanes.{by_place, first_wish, none_wished, wish_at}

row_views : {n : _} (k : Row_of-Operand n) → view_row k ≡ views (items-the_row-Operand n k)
row_views end_of-Operand = refl
row_views (more_of-Operand e rest) = ap (before e) (row_views rest)

pub operands_of : (v : Vec Operand Global) → view_row (hidden-the_row-Operand-0 v) ≡ views v.items
operands_of v = row_views (hidden-the_row-Operand-0 v) ∙ ap views (items_hidden-the_row-Operand-0 v)

pub view_do : (o : Operation) (v : Vec Operand Global) → view (Do o v) ≡ plain.Do o (views v.items)
view_do o v = ap (plain.Do o) (operands_of v)

pub view_over : (l : Listed) (v : Vec Operand Global) → view (Over l v) ≡ plain.Over l (views v.items)
view_over l v = ap (plain.Over l) (operands_of v)

pub view_call : (f : ℕ) (v : Vec Operand Global) → view (Call f v) ≡ plain.Call f (views v.items)
view_call f v = ap (plain.Call f) (operands_of v)

pub view_replace : (all : Bool) (v : Vec Operand Global) (s : Box Code Global) → view (Replace all v s) ≡ plain.Replace all (views v.items) (view s.value)
view_replace all v s = ap (λ (es : plain.Codes). plain.Replace all es (view s.value)) (operands_of v)

step_rows : {n : _} (k : Row_of-Step n) → view_step_row k ≡ view_steps (items-the_row-Step n k)
step_rows end_of-Step = refl
step_rows (more_of-Step s rest) = ap (plain.Then (view_step s)) (step_rows rest)

pub steps_of : (v : Vec Step Global) → view_step_row (hidden-the_row-Step-0 v) ≡ view_steps v.items
steps_of v = step_rows (hidden-the_row-Step-0 v) ∙ ap view_steps (items_hidden-the_row-Step-0 v)

pub view_block : (v : Vec Step Global) → view_step (Block v) ≡ plain.Block (view_steps v.items)
view_block v = ap plain.Block (steps_of v)

abbrev first_code : plain.Code → plain.Codes → plain.Code
first_code d (plain.At e es) = e
first_code d _ = d

abbrev first_constant : plain.Codes → ℕ
first_constant (plain.Fixed n es) = n
first_constant _ = 0

-- the first i are changed as R says, each by its place; the others are as they were
abbrev pub Done : {A : Type 0} → (ℕ → A → A → Type 0) → ℕ → List A → List A → Type 0
Done R zero xs ys = xs ≡ ys
Done R (suc i) (x ∷ xs) (y ∷ ys) = R zero x y × Done (λ k. R (suc k)) i xs ys
Done R (suc i) _ _ = ⊥

done_first : {A : Type 0} (R : A → A → Type 0) (x a b : A) (xs ys : List A) → R x a → ◌≡◌ {A = List A} (a ∷ xs) (b ∷ ys) → R x b × (xs ≡ ys)
done_first {A} R x a b xs ys r h = (subst (R x) (ap head h) r, ap rest h)
  where
    head : List A → A
    head [] = a
    head (z ∷ zs) = z

    rest : List A → List A
    rest [] = xs
    rest (z ∷ zs) = zs

done_suc : {A : Type 0} (R : ℕ → A → A → Type 0) (i : ℕ) (xs ys : List A) (d x : A) → i < length xs → Done R i xs ys → R i x (get_or xs i d) → Done R (suc i) (set xs i x) ys
done_suc R zero (a ∷ xs) (b ∷ ys) d x lt h r = done_first (R zero) x a b xs ys r h
done_suc R zero (a ∷ xs) [] d x lt h r = absurd cc
done_suc R zero [] ys d x lt h r = absurd (omega arith)
done_suc R (suc i) (a ∷ xs) (b ∷ ys) d x lt h r = (h.0, done_suc (λ k. R (suc k)) i xs ys d x (omega arith) h.1 r)
done_suc R (suc i) (a ∷ xs) [] d x lt h r = absurd h
done_suc R (suc i) [] ys d x lt h r = absurd (omega arith)

pub done_next : {A : Type 0} (R : ℕ → A → A → Type 0) (i : ℕ) (xs ys : List A) (d x : A) → i < length xs → Done R i xs ys → R i x (get_or xs i d) → Done R (i + 1) (set xs i x) ys
done_next R i xs ys d x lt h r = let s : suc i ≡ i + 1 = omega arith in subst (λ (n : ℕ). Done R n (set xs i x) ys) s (done_suc R i xs ys d x lt h r)

-- those after the first i are as they were
pub rest_next : {A : Type 0} (xs ys : List A) (i : ℕ) (x : A) → (length xs ≡ length ys) × ((k : ℕ) (d : A) → i ≤ k → get_or xs k d ≡ get_or ys k d) →
    (length (set xs i x) ≡ length ys) × ((k : ℕ) (d : A) → i + 1 ≤ k → get_or (set xs i x) k d ≡ get_or ys k d)
rest_next xs ys i x h = (length-set xs i x ∙ h.0, λ k d le. get_or-set_other xs i k x d (omega arith) ∙ h.1 k d (omega arith))

module _ (slots : plain.Slot → plain.Slot) where
  -- operands

  abbrev pub OperandDone : ℕ → Operand → Operand → Type 0
  OperandDone k x y = before x plain.End ≡ codes_in slots plain.Do (before y plain.End)

  operand_more : (x y : Operand) (xs ys : List Operand) → OperandDone 0 x y → views xs ≡ codes_in slots plain.Do (views ys) → views (x ∷ xs) ≡ codes_in slots plain.Do (views (y ∷ ys))
  operand_more (operand.Code a) (operand.Code b) xs ys h k = λ i. plain.At (first_code (view a) (h i)) (k i)
  operand_more (operand.Constant m) (operand.Constant n) xs ys h k = λ i. plain.Fixed (first_constant (h i)) (k i)
  operand_more operand.Fresh operand.Fresh xs ys h k = ap plain.Fresh k
  operand_more (operand.Code a) (operand.Constant n) xs ys h k = absurd cc
  operand_more (operand.Code a) operand.Fresh xs ys h k = absurd cc
  operand_more (operand.Constant m) (operand.Code b) xs ys h k = absurd cc
  operand_more (operand.Constant m) operand.Fresh xs ys h k = absurd cc
  operand_more operand.Fresh (operand.Code b) xs ys h k = absurd cc
  operand_more operand.Fresh (operand.Constant n) xs ys h k = absurd cc

  pub operands_done : (i : ℕ) (xs ys : List Operand) → i ≡ length xs → Done OperandDone i xs ys → views xs ≡ codes_in slots plain.Do (views ys)
  operands_done zero [] [] e h = refl
  operands_done zero [] (y ∷ ys) e h = absurd cc
  operands_done zero (x ∷ xs) ys e h = absurd cc
  operands_done (suc i) (x ∷ xs) (y ∷ ys) e h = operand_more x y xs ys h.0 (operands_done i xs ys (omega (arith, e)) h.1)
  operands_done (suc i) (x ∷ xs) [] e h = absurd h
  operands_done (suc i) [] ys e h = absurd cc

  -- codes

  abbrev pub CodeDone : ℕ → Code → Code → Type 0
  CodeDone k x y = view x ≡ code_in slots plain.Do (view y)

  pub codes_done : (i : ℕ) (xs ys : List Code) → i ≡ length xs → Done CodeDone i xs ys → map view xs ≡ map (code_in slots plain.Do) (map view ys)
  codes_done zero [] [] e h = refl
  codes_done zero [] (y ∷ ys) e h = absurd cc
  codes_done zero (x ∷ xs) ys e h = absurd cc
  codes_done (suc i) (x ∷ xs) (y ∷ ys) e h = let rest = codes_done i xs ys (omega (arith, e)) h.1 in λ j. h.0 j ∷ rest j
  codes_done (suc i) (x ∷ xs) [] e h = absurd h
  codes_done (suc i) [] ys e h = absurd cc

  -- steps

  abbrev pub StepDone : ℕ → Step → Step → Type 0
  StepDone k x y = view_step x ≡ step_in slots plain.Do (view_step y)

  pub steps_done : (i : ℕ) (xs ys : List Step) → i ≡ length xs → Done StepDone i xs ys → view_steps xs ≡ steps_in slots plain.Do (view_steps ys)
  steps_done zero [] [] e h = refl
  steps_done zero [] (y ∷ ys) e h = absurd cc
  steps_done zero (x ∷ xs) ys e h = absurd cc
  steps_done (suc i) (x ∷ xs) (y ∷ ys) e h = λ j. plain.Then (h.0 j) (steps_done i xs ys (omega (arith, e)) h.1 j)
  steps_done (suc i) (x ∷ xs) [] e h = absurd h
  steps_done (suc i) [] ys e h = absurd cc

-- kinds, globals and functions, by their places

abbrev pub KindDone : (ℕ → Bool) → ℕ → Kind → Kind → Type 0
KindDone u k x y = view_kind x ≡ kind_with (u k) (view_kind y)

pub kind_step : (u : ℕ → Bool) (i p : ℕ) (b : Bool) (x y : Kind) → b ≡ u p → p ≡ i → view_kind x ≡ kind_with b (view_kind y) → view_kind x ≡ kind_with (u i) (view_kind y)
kind_step u i p b x y h k e = e ∙ (λ j. kind_with ((h ∙ ap u k) j) (view_kind y))

pub kinds_done : (u : ℕ → Bool) (i : ℕ) (xs ys : List Kind) → i ≡ length xs → Done (KindDone u) i xs ys → map view_kind xs ≡ kinds_with u (map view_kind ys)
kinds_done u zero [] [] e h = refl
kinds_done u zero [] (y ∷ ys) e h = absurd cc
kinds_done u zero (x ∷ xs) ys e h = absurd cc
kinds_done u (suc i) (x ∷ xs) (y ∷ ys) e h = λ j. h.0 j ∷ kinds_done (λ k. u (suc k)) i xs ys (omega (arith, e)) h.1 j
kinds_done u (suc i) (x ∷ xs) [] e h = absurd h
kinds_done u (suc i) [] ys e h = absurd cc

abbrev pub GlobalDone : (u n : ℕ → Bool) → ℕ → Declared → Declared → Type 0
GlobalDone u n k x y = view_declared x ≡ global_with (u k) (n k) (view_declared y)

pub global_step : (u n : ℕ → Bool) (i p : ℕ) (b c : Bool) (x y : Declared) → b ≡ u p → c ≡ n p → p ≡ i → view_declared x ≡ global_with b c (view_declared y) → view_declared x ≡ global_with (u i) (n i) (view_declared y)
global_step u n i p b c x y h g k e = e ∙ (λ j. global_with ((h ∙ ap u k) j) ((g ∙ ap n k) j) (view_declared y))

pub globals_done : (u n : ℕ → Bool) (i : ℕ) (xs ys : List Declared) → i ≡ length xs → Done (GlobalDone u n) i xs ys → map view_declared xs ≡ globals_with u n (map view_declared ys)
globals_done u n zero [] [] e h = refl
globals_done u n zero [] (y ∷ ys) e h = absurd cc
globals_done u n zero (x ∷ xs) ys e h = absurd cc
globals_done u n (suc i) (x ∷ xs) (y ∷ ys) e h = λ j. h.0 j ∷ globals_done (λ k. u (suc k)) (λ k. n (suc k)) i xs ys (omega (arith, e)) h.1 j
globals_done u n (suc i) (x ∷ xs) [] e h = absurd h
globals_done u n (suc i) [] ys e h = absurd cc

abbrev pub RoutineDone : List plain.Kind → (ℕ → List plain.Kind) → ℕ → Routine → Routine → Type 0
RoutineDone gs ps k x y = view_routine x ≡ routine_with gs (ps k) (view_routine y)

pub routines_done : (gs : List plain.Kind) (ps : ℕ → List plain.Kind) (i : ℕ) (xs ys : List Routine) → i ≡ length xs → Done (RoutineDone gs ps) i xs ys → map view_routine xs ≡ routines_with gs ps (map view_routine ys)
routines_done gs ps zero [] [] e h = refl
routines_done gs ps zero [] (y ∷ ys) e h = absurd cc
routines_done gs ps zero (x ∷ xs) ys e h = absurd cc
routines_done gs ps (suc i) (x ∷ xs) (y ∷ ys) e h = λ j. h.0 j ∷ routines_done gs (λ k. ps (suc k)) i xs ys (omega (arith, e)) h.1 j
routines_done gs ps (suc i) (x ∷ xs) [] e h = absurd h
routines_done gs ps (suc i) [] ys e h = absurd cc

-- lenders, by their places

abbrev pub LenderDone : (ℕ → Option ℕ → Option ℕ) → ℕ → Option ℕ → Option ℕ → Type 0
LenderDone w k x y = x ≡ w k y

pub lenders_done : (w : ℕ → Option ℕ → Option ℕ) (i : ℕ) (xs ys : List (Option ℕ)) → i ≡ length xs → Done (LenderDone w) i xs ys → xs ≡ by_place w ys
lenders_done w zero [] [] e h = refl
lenders_done w zero [] (y ∷ ys) e h = absurd cc
lenders_done w zero (x ∷ xs) ys e h = absurd cc
lenders_done w (suc i) (x ∷ xs) (y ∷ ys) e h = λ j. h.0 j ∷ lenders_done (λ k. w (suc k)) i xs ys (omega (arith, e)) h.1 j
lenders_done w (suc i) (x ∷ xs) [] e h = absurd h
lenders_done w (suc i) [] ys e h = absurd cc

pub lender_past : (os : List (Option ℕ)) (i : ℕ) → length os ≤ i → None ≡ lender_at os i
lender_past [] i le = refl
lender_past (o ∷ os) zero le = absurd (omega arith)
lender_past (o ∷ os) (suc i) le = lender_past os i (omega arith)

pub lender_there : (os : List (Option ℕ)) (i : ℕ) (d : Option ℕ) → i < length os → get_or os i d ≡ lender_at os i
lender_there [] i d lt = absurd (omega arith)
lender_there (o ∷ os) zero d lt = refl
lender_there (o ∷ os) (suc i) d lt = lender_there os i d (omega arith)

pub wish_set : (os : List (Option ℕ)) (i g : ℕ) (w d : Option ℕ) → i < length os → w ≡ first_wish (get_or os i d) g → set os i w ≡ wish_at os i g
wish_set [] i g w d lt e = absurd (omega arith)
wish_set (o ∷ os) zero g w d lt e = ap (λ (x : Option ℕ). x ∷ os) e
wish_set (o ∷ os) (suc i) g w d lt e = ap (λ (xs : List (Option ℕ)). o ∷ xs) (wish_set os i g w d (omega arith) e)

pub wish_past : (os : List (Option ℕ)) (i g : ℕ) → length os ≤ i → os ≡ wish_at os i g
wish_past [] i g le = refl
wish_past (o ∷ os) zero g le = absurd (omega arith)
wish_past (o ∷ os) (suc i) g le = ap (λ (xs : List (Option ℕ)). o ∷ xs) (wish_past os i g (omega arith))

pub none_next : (os bs cs : List (Option ℕ)) (i : ℕ) → i < length os → cs ≡ bs ++ (None ∷ []) → cs ++ none_wished (drop (i + 1) os) ≡ bs ++ none_wished (drop i os)
none_next os bs cs i lt pushed =
    (λ j. pushed j ++ none_wished (drop (add-one i j) os)) ∙ append_assoc bs (None ∷ []) (none_wished (drop (suc i) os))
    ∙ ap (λ (xs : List (Option ℕ)). bs ++ none_wished xs) (sym (drop-cons os i None lt))

-- what a Vec has once its elements were lent
pub written_back : {A : Type 0} (n : ℕ) (xs ys : List A) → n ≡ length xs → take n (xs ++ ys) ≡ xs
written_back n xs ys e = ap (λ (m : ℕ). take m (xs ++ ys)) e ∙ take-append_seam xs ys

-- a list that is made anew, element by element: v of what is made is f of what is read, and F is f of each
pub pushed_next : {A B K : Type 0} (v : B → K) (f : A → K) (F : List A → List K) → ((x : A) (xs : List A) → f x ∷ F xs ≡ F (x ∷ xs)) →
    (xs : List A) (i : ℕ) (d : A) (bs cs : List B) (b : B) → i < length xs → cs ≡ bs ++ (b ∷ []) → v b ≡ f (get_or xs i d) → map v cs ++ F (drop (i + 1) xs) ≡ map v bs ++ F (drop i xs)
pushed_next {A} {B} {K} v f F each xs i d bs cs b lt pushed e =
    (λ j. map v (pushed j) ++ F (drop (add-one i j) xs)) ∙ ap (λ (ks : List K). ks ++ F (drop (suc i) xs)) (map-append v bs (b ∷ [])) ∙ append_assoc (map v bs) (v b ∷ []) (F (drop (suc i) xs))
    ∙ ap (λ (k : K). map v bs ++ (k ∷ F (drop (suc i) xs))) e
    ∙ ap (λ (ks : List K). map v bs ++ ks) (each (get_or xs i d) (drop (suc i) xs) ∙ ap F (sym (drop-cons xs i d lt)))

-- what is found by its place

pub unboxed_at : (ks : List Kind) (i : ℕ) (d : Kind) → i < length ks → same_kind (view_kind (get_or ks i d)) plain.Unboxed ≡ is_unboxed (map view_kind ks) i
unboxed_at [] i d lt = absurd (omega arith)
unboxed_at (x ∷ ks) zero d lt = refl
unboxed_at (x ∷ ks) (suc i) d lt = unboxed_at ks i d (omega arith)

pub unboxed_past : (ks : List Kind) (i : ℕ) → length ks ≤ i → false ≡ is_unboxed (map view_kind ks) i
unboxed_past [] i le = refl
unboxed_past (x ∷ ks) zero le = absurd (omega arith)
unboxed_past (x ∷ ks) (suc i) le = unboxed_past ks i (omega arith)

abbrev pub kinds_in : Vec Kind Global → List plain.Kind
kinds_in v = map view_kind v.items

pub parameters_found : (vs : List (Vec Kind Global)) (i : ℕ) (v : Vec Kind Global) → i < length vs → v ≡ get_or vs i v → map view_kind v.items ≡ plain.parameters_at (map kinds_in vs) i
parameters_found [] i v lt e = absurd (omega arith)
parameters_found (x ∷ vs) zero v lt e = ap kinds_in e
parameters_found (x ∷ vs) (suc i) v lt e = parameters_found vs i v (omega arith) e

pub parameters_past : (vs : List (Vec Kind Global)) (i : ℕ) → length vs ≤ i → [] ≡ plain.parameters_at (map kinds_in vs) i
parameters_past [] i le = refl
parameters_past (x ∷ vs) zero le = absurd (omega arith)
parameters_past (x ∷ vs) (suc i) le = parameters_past vs i (omega arith)
