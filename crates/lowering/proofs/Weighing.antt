-- Code takes at least what its parts take.
use Rattle.std.proofs.Common.{◌≡◌, ℕ, zero, suc, ◌+◌, ◌^◌, ◌<◌, ◌≤◌, Bool, true, false, if◌then◌else◌, List, [], ◌∷◌, ◌++◌, None, drop, drop-cons, get_or, length, map, sym, ap, ◌∙◌, subst, arith}
use Rattle.std.proofs.lemmas.List.{at_drop_all}
use Rattle.std.specs.declared.alloc.Global.{Global}
use Rattle.std.specs.declared.vec.Vec.{Vec}
use Rattle.sem_primitives.specs.declared.table.Primitive.TheVariants.{BeginEnd}
use Rattle.wasm_types.specs.Syntax as tree
use Rattle.wasm_types.specs.Syntax.{Instructions, Done, Then}
use Rattle.wasm_types.specs.ModuleGrammar.{IsModule}
use Rattle.wasm_types.specs.View.{views}
use Rattle.wasm_types.specs.declared.instr.Instr.{Instr}
use Rattle.wasm_types.specs.declared.instr.Simple.TheVariants.{Br, Convert, GlobalGet}
use Rattle.wasm_types.specs.declared.instr.CvtOp.TheVariants.{I32WrapI64}
use Rattle.mid_program.specs.Mid.{Kind, Boxed, Unboxed, ArrayKind, Program, Steps}
use Rattle.mid_program.specs.ViewCode.{view_step, view_steps}
use Rattle.mid_program.specs.declared.step.Step.{Step, Block}
use Rattle.lower_model.specs.Emission.{Layout, asked}
use Rattle.lower_model.specs.Boundaries.{steps_places}
use Rattle.lower_model.specs.Functions.{main_callee, routine_callee}
use Rattle.lower_model.specs.Machine.{Callee}
use Rattle.lower_model.specs.Modules.{all_callees, module_of}
use Rattle.lower_model.specs.Places.{status_global}
use Rattle.lower_model.specs.Small.{ask_row, emit}
use Rattle.lower_model.specs.Statements.{all_emptied, arrays_emptied, before_parts, first_part, iterators_emptied, last_part, main_body, names_declared, names_made, part_done, records_read, routines_declared, step_emitted, steps_emitted, swept, temporaries_emptied}
use Rattle.sem_primitives.specs.declared.table.Primitive.TheVariants as row
use Rattle.lower_pieces.specs.Emits.{followed}
use Rattle.lower_modules.specs.Lengths.{least_among, least_in}
use Rattle.lowering.specs.Lengths.{TakesAtLeast, Weighs}
use Rattle.lower_modules.specs.Limits.{most_bytes}
use Rattle.lower_modules.proofs.Spelled.{spelled_short}
use Rattle.lowering.specs.StepFits.{StepsFit}
use Rattle.lowering.proofs.Stepping.{block_code, first_places}

-- Statements.

followed_least : (is : List Instr) (k : Instructions) → least_in (followed is k) ≡ least_in (views is) + least_in k
followed_least [] k = omega arith
followed_least (i ∷ is) k = let r = followed_least is k in omega (arith, r)

pub piece : (code : Instructions → Instructions) (is : List Instr) (n : ℕ) → ((k : Instructions) → followed is k ≡ code k) → n ≤ least_in (views is) → TakesAtLeast n code
piece code is n emits le k =
    let e = ap least_in (emits k) in
    let f = followed_least is k in
    omega (arith, le, e, f)

pub weighed : (n : ℕ) (code : Instructions → Instructions) → TakesAtLeast n code → Weighs n code
weighed n code h = (λ k. let a = h k in omega (arith, a), λ few. h)

block_more : (y : Layout) (s : Step) (v : Vec Step Global) (ss : List Step) → s ≡ Block v → ss ≡ v.items → (k : Instructions) →
    least_in (steps_emitted y (view_steps ss) 0 0 0 0 k) ≤ least_in (step_emitted y (view_step s) 0 0 0 0 k)
block_more y s v ss e f k = let b = ap least_in (block_code y s v ss 0 0 0 0 k e f) in omega (arith, b)

pub block_least : (y : Layout) (s : Step) (v : Vec Step Global) (ss : List Step) (n : ℕ) → s ≡ Block v → ss ≡ v.items →
    Weighs n (steps_emitted y (view_steps ss) 0 0 0 0) → Weighs n (step_emitted y (view_step s) 0 0 0 0)
block_least y s v ss n e f h = (alone, beside)
  where
    alone : (k : Instructions) → n ≤ least_in (step_emitted y (view_step s) 0 0 0 0 k)
    alone k = let b = block_more y s v ss e f k in let a = h.0 k in omega (arith, a, b)

    beside : n ≤ most_bytes → TakesAtLeast n (step_emitted y (view_step s) 0 0 0 0)
    beside few k = let b = block_more y s v ss e f k in let a = h.1 few k in omega (arith, a, b)

next_code : (y : Layout) (ss : List Step) (i : ℕ) (s : Step) (k : Instructions) → i < length ss → s ≡ get_or ss i s →
    steps_emitted y (view_steps (drop i ss)) 0 0 0 0 k ≡ step_emitted y (view_step s) 0 0 0 0 (steps_emitted y (view_steps (drop (i + 1) ss)) 0 0 0 0 k)
unfolding steps_emitted
next_code y ss i s k lt at =
    let on : suc i ≡ i + 1 = omega arith in
    ap (λ (xs : List Step). steps_emitted y (view_steps xs) 0 0 0 0 k) (drop-cons ss i s lt)
    ∙ (λ j. step_emitted y (view_step (sym at j)) 0 0 0 0 (steps_emitted y (view_steps (drop (on j) ss)) 0 0 0 0 k))

-- the first of the statements that are left
pub next_least : (y : Layout) (ss : List Step) (i : ℕ) (s : Step) (b n total : ℕ) (k : Instructions) → i < length ss → s ≡ get_or ss i s →
    TakesAtLeast n (step_emitted y (view_step s) 0 0 0 0) → b + least_in (steps_emitted y (view_steps (drop i ss)) 0 0 0 0 k) ≤ total →
    b + n + least_in (steps_emitted y (view_steps (drop (i + 1) ss)) 0 0 0 0 k) ≤ total
next_least y ss i s b n total k lt at h le =
    let e = ap least_in (next_code y ss i s k lt at) in
    let a = h (steps_emitted y (view_steps (drop (i + 1) ss)) 0 0 0 0 k) in
    omega (arith, e, a, le)

-- the first of these alone, whatever comes after it
pub first_alone : (y : Layout) (ss : List Step) (i : ℕ) (s : Step) (b n total : ℕ) (k : Instructions) → i < length ss → s ≡ get_or ss i s →
    ((j : Instructions) → n ≤ least_in (step_emitted y (view_step s) 0 0 0 0 j)) → b + least_in (steps_emitted y (view_steps (drop i ss)) 0 0 0 0 k) ≤ total → b + n ≤ total
first_alone y ss i s b n total k lt at h le =
    let e = ap least_in (next_code y ss i s k lt at) in
    let a = h (steps_emitted y (view_steps (drop (i + 1) ss)) 0 0 0 0 k) in
    omega (arith, e, a, le)

pub rest_few : (ss : List Step) (i : ℕ) (s : Step) → i < length ss → s ≡ get_or ss i s → steps_places (view_steps (drop (i + 1) ss)) ≤ steps_places (view_steps (drop i ss))
rest_few ss i s lt at =
    let n = first_places ss i s lt at in
    let on : suc i ≡ i + 1 = omega arith in
    let same = ap (λ (j : ℕ). steps_places (view_steps (drop j ss))) on in
    omega (arith, n, same)

pub rest_fits : (y : Layout) (ss : List Step) (i : ℕ) (s : Step) → i < length ss → StepsFit y (view_steps (drop i ss)) 0 0 → StepsFit y (view_steps (drop (i + 1) ss)) 0 0
rest_fits y ss i s lt h =
    let on : suc i ≡ i + 1 = omega arith in
    subst (λ (j : ℕ). StepsFit y (view_steps (drop j ss)) 0 0) on (subst (λ (xs : List Step). StepsFit y (view_steps xs) 0 0) (drop-cons ss i s lt) h).1

-- no statement is left
pub none_left : (y : Layout) (ss : List Step) (i : ℕ) (k : Instructions) → length ss ≤ i → steps_emitted y (view_steps (drop i ss)) 0 0 0 0 k ≡ k
unfolding steps_emitted
none_left y ss i k le = at_drop_all (λ (xs : List Step). steps_emitted y (view_steps xs) 0 0 0 0 k) ss i le

-- `main`.

module _ (y : Layout) where
  temporaries_least : (t m : ℕ) (k : Instructions) → least_in k ≤ least_in (temporaries_emptied y t m k)
  temporaries_least t zero k = omega arith
  temporaries_least t (suc m) k = let r = temporaries_least (suc t) m k in omega (arith, r)

  iterators_least : (u m : ℕ) (k : Instructions) → least_in k ≤ least_in (iterators_emptied y u m k)
  iterators_least u zero k = omega arith
  iterators_least u (suc m) k = let r = iterators_least (suc u) m k in omega (arith, r)

  arrays_least : (w m : ℕ) (k : Instructions) → least_in k ≤ least_in (arrays_emptied y w m k)
  arrays_least w zero k = omega arith
  arrays_least w (suc m) k = let r = arrays_least (suc w) m k in omega (arith, r)

  emptied_least : (k : Instructions) → least_in k ≤ least_in (all_emptied y k)
  emptied_least k =
      let arrays = arrays_emptied y zero y.bases.arrays k in
      let iterators = iterators_emptied y zero y.bases.iterators arrays in
      let a = arrays_least zero y.bases.arrays k in
      let b = iterators_least zero y.bases.iterators arrays in
      let c = temporaries_least zero y.bases.temporaries iterators in
      omega (arith, a, b, c)

  names_least : (i : ℕ) (ks : List Kind) (k : Instructions) → least_in k ≤ least_in (names_declared y i ks k)
  names_least i [] k = omega arith
  names_least i (kind ∷ ks) k = let r = names_least (suc i) ks k in omega (arith, r)

  routines_least : (i m : ℕ) (k : Instructions) → least_in k ≤ least_in (routines_declared y i m k)
  routines_least i zero k = omega arith
  routines_least i (suc m) k = let r = routines_least (suc i) m k in omega (arith, r)

  made_least : (i : ℕ) (ks : List Kind) (k : Instructions) → least_in k ≤ least_in (names_made y i ks k)
  made_least i [] k = omega arith
  made_least i (Boxed ∷ ks) k = let r = made_least (suc i) ks k in omega (arith, r)
  made_least i (Unboxed ∷ ks) k = let r = made_least (suc i) ks k in omega (arith, r)
  made_least i (ArrayKind ∷ ks) k = let r = made_least (suc i) ks k in omega (arith, r)

  before_least : (p : Program) (k : Instructions) → least_in k ≤ least_in (before_parts y p k)
  before_least p k =
      let assigned = asked y row.StartAssign zero zero k in
      let made = names_made y zero y.names assigned in
      let routines = routines_declared y (length p.texts + length p.globals) (length p.routines) made in
      let a : least_in k ≤ least_in assigned = omega arith in
      let b = made_least zero y.names assigned in
      let c = routines_least (length p.texts + length p.globals) (length p.routines) made in
      let d = names_least (length p.texts) y.names routines in
      omega (arith, a, b, c, d)

  part_least : (actions : Instructions) (d : ℕ) (k : Instructions) → least_in actions + least_in k ≤ least_in (part_done y actions d k)
  part_least actions d k = omega arith

  -- the items of a record
  items_alone : (items : Steps) (n : ℕ) (k : Instructions) → ((j : Instructions) → n ≤ least_in (steps_emitted y items 0 0 0 0 j)) → n ≤ least_in (records_read y items zero k)
  items_alone items n k h = let a = h (emit (Br 1) Done) in omega (arith, a)

  abbrev first_by : (p : Program) → Bool → Instructions
  first_by p z = steps_emitted y p.begin 0 0 0 0 (if z then records_read y p.items zero (emit (Br 1) Done) else emit (Br 1) Done)

  begin_first : (p : Program) (b : ℕ) → ((k : Instructions) → b ≤ least_in (steps_emitted y p.begin 0 0 0 0 k)) → b ≤ least_in (first_part y p)
  begin_first p b h = by p.reads
    where
      by : (z : Bool) → b ≤ least_in (first_by p z)
      by true = h (records_read y p.items zero (emit (Br 1) Done))
      by false = h (emit (Br 1) Done)

  items_first : (p : Program) (b i : ℕ) → p.reads ≡ true → TakesAtLeast b (steps_emitted y p.begin 0 0 0 0) → ((k : Instructions) → i ≤ least_in (steps_emitted y p.items 0 0 0 0 k)) →
      b + i ≤ least_in (first_part y p)
  items_first p b i reads begin items = by p.reads reads
    where
      by : (z : Bool) → z ≡ true → b + i ≤ least_in (first_by p z)
      by true e =
          let a = begin (records_read y p.items zero (emit (Br 1) Done)) in
          let r = items_alone p.items i (emit (Br 1) Done) items in
          omega (arith, a, r)
      by false e = cc

  within : (p : Program) (f l : ℕ) → f ≤ least_in (first_part y p) → l ≤ least_in (last_part y p) → f + l ≤ least_in (main_body y p)
  within p f l first ends =
      let last = ask_row BeginEnd (part_done y (last_part y p) zero Done) in
      let parts = part_done y (first_part y p) zero last in
      let q = part_least (last_part y p) zero Done in
      let r = part_least (first_part y p) zero last in
      let s = before_least p parts in
      let whole : least_in (before_parts y p parts) ≤ least_in (main_body y p) = whole_least (before_parts y p parts) in
      omega (arith, first, ends, q, r, s, whole)
    where
      whole_least : (inner : Instructions) → least_in inner ≤ least_in (all_emptied y (Then (tree.Block None inner) (swept y (emit (GlobalGet status_global) (emit (Convert I32WrapI64) Done)))))
      whole_least inner =
          let rest = swept y (emit (GlobalGet status_global) (emit (Convert I32WrapI64) Done)) in
          let a = emptied_least (Then (tree.Block None inner) rest) in
          omega (arith, a)

  -- `main` takes what its parts take
  pub begin_within : (p : Program) (b : ℕ) → Weighs b (steps_emitted y p.begin 0 0 0 0) → b ≤ least_in (main_body y p)
  begin_within p b begin = let w = within p b 0 (begin_first p b begin.0) (omega arith) in omega (arith, w)

  pub end_within : (p : Program) (e : ℕ) → Weighs e (steps_emitted y p.end 0 0 0 0) → e ≤ least_in (main_body y p)
  end_within p e end = let w = within p 0 e (omega arith) (end.0 (emit (Br 1) Done)) in omega (arith, w)

  pub both_within : (p : Program) (b e r : ℕ) → Weighs b (steps_emitted y p.begin 0 0 0 0) → Weighs e (steps_emitted y p.end 0 0 0 0) → r ≤ b + e → r ≤ least_in (main_body y p)
  both_within p b e r begin end le = let w = within p b e (begin_first p b begin.0) (end.0 (emit (Br 1) Done)) in omega (arith, w, le)

  pub all_within : (p : Program) (b e i r : ℕ) → Weighs b (steps_emitted y p.begin 0 0 0 0) → b ≤ most_bytes → Weighs e (steps_emitted y p.end 0 0 0 0) → p.reads ≡ true →
      Weighs i (steps_emitted y p.items 0 0 0 0) → r ≤ b + e + i → r ≤ least_in (main_body y p)
  all_within p b e i r begin few end reads items le =
      let w = within p (b + i) e (items_first p b i reads (begin.1 few) items.0) (end.0 (emit (Br 1) Done)) in
      omega (arith, w, le)

-- `main` is the last of the functions
last_least : (fs : List Callee) (f : Callee) → least_in f.body ≤ least_among (fs ++ f ∷ [])
last_least [] f = omega arith
last_least (g ∷ fs) f = let r = last_least fs f in omega (arith, r)

-- where the code of `main` is too long, no bytes are the module
pub no_module : (p : Program) → most_bytes < least_in (main_callee p).body → (bytes : List ℕ) → IsModule bytes (module_of p) → ⊥
no_module p past bytes m = apart (least_in (main_callee p).body) (least_among (all_callees p)) past (last_least (map (routine_callee p) p.routines) (main_callee p)) (spelled_short p bytes m)
  where
    apart : (x t : ℕ) → 2 ^ 24 < x → x ≤ t → t ≤ 2 ^ 24 → ⊥
    apart x t a b c = omega (arith, a, b, c)
