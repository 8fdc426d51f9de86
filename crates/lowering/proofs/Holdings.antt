-- What a function holds is emptied and let go as the definitions say it, sort by sort.
use Rattle.std.proofs.Common.{◌≡◌, ℕ, zero, suc, ◌+◌, ◌-◌, ◌<◌, Bool, true, false, List, [], ◌∷◌, length, map, refl, sym, ap, ◌∙◌, arith}
use Rattle.wasm_types.specs.Syntax.{Instructions}
use Rattle.wasm_types.specs.declared.instr.Simple.TheVariants.{I64Const, LocalSet}
use Rattle.mid_program.specs.Mid as plain
use Rattle.mid_program.specs.View.{view_routine}
use Rattle.mid_program.specs.declared.program.Routine.{Routine}
use Rattle.lower_model.specs.Emission.{Layout}
use Rattle.lower_model.specs.Places.{Bases, answer_local, array_local, handle_local, iterator_local}
use Rattle.lower_model.specs.Small.{emit, emptied, let_go, was_left}
use Rattle.lower_model.specs.Statements.{all_emptied, arrays_emptied, arrays_swept, has_functions, iterators_emptied, iterators_swept, left_swept, operands_swept, swept, temporaries_emptied, temporaries_swept}
use Rattle.host_imports.specs.declared.import.Import.TheVariants.{Drop, FreeArray, IterFree}
use Rattle.lowering.specs.Holding.{held_emptied, held_import, held_local, held_swept}
use Rattle.lowering.specs.declared.holding.Held.{Held}
use Rattle.lowering.specs.declared.holding.Held.TheVariants.{Temporaries, Iterators, Arrays}

-- one more of a run from the i-th on

pub emptied_step : (s : Held) (b : Bases) (i m : ℕ) (k : Instructions) → i < m → held_emptied s b i (m - i) k ≡ emptied (held_local s b i) (held_emptied s b (i + 1) (m - (i + 1)) k)
emptied_step s b i m k lt =
    let more : m - i ≡ suc (m - (i + 1)) = omega arith in
    let next : suc i ≡ i + 1 = omega arith in
    ap (λ (c : ℕ). held_emptied s b i c k) more ∙ ap (λ (j : ℕ). emptied (held_local s b i) (held_emptied s b j (m - (i + 1)) k)) next

pub swept_step : (s : Held) (b : Bases) (i m : ℕ) (k : Instructions) → i < m → held_swept s b i (m - i) k ≡ let_go (held_import s) (held_local s b i) (held_swept s b (i + 1) (m - (i + 1)) k)
swept_step s b i m k lt =
    let more : m - i ≡ suc (m - (i + 1)) = omega arith in
    let next : suc i ≡ i + 1 = omega arith in
    ap (λ (c : ℕ). held_swept s b i c k) more ∙ ap (λ (j : ℕ). let_go (held_import s) (held_local s b i) (held_swept s b j (m - (i + 1)) k)) next

-- sort by sort

temporaries_empty : (y : Layout) (i m : ℕ) (k : Instructions) → held_emptied Temporaries y.bases i m k ≡ temporaries_emptied y i m k
temporaries_empty y i zero k = refl
temporaries_empty y i (suc m) k = ap (emptied (handle_local y.bases i)) (temporaries_empty y (suc i) m k)

iterators_empty : (y : Layout) (i m : ℕ) (k : Instructions) → held_emptied Iterators y.bases i m k ≡ iterators_emptied y i m k
iterators_empty y i zero k = refl
iterators_empty y i (suc m) k = ap (emptied (iterator_local y.bases i)) (iterators_empty y (suc i) m k)

arrays_empty : (y : Layout) (i m : ℕ) (k : Instructions) → held_emptied Arrays y.bases i m k ≡ arrays_emptied y i m k
arrays_empty y i zero k = refl
arrays_empty y i (suc m) k = ap (emptied (array_local y.bases i)) (arrays_empty y (suc i) m k)

temporaries_sweep : (y : Layout) (i m : ℕ) (k : Instructions) → held_swept Temporaries y.bases i m k ≡ temporaries_swept y i m k
temporaries_sweep y i zero k = refl
temporaries_sweep y i (suc m) k = ap (let_go Drop (handle_local y.bases i)) (temporaries_sweep y (suc i) m k)

pub iterators_sweep : (y : Layout) (i m : ℕ) (k : Instructions) → held_swept Iterators y.bases i m k ≡ iterators_swept y i m k
iterators_sweep y i zero k = refl
iterators_sweep y i (suc m) k = ap (let_go IterFree (iterator_local y.bases i)) (iterators_sweep y (suc i) m k)

arrays_sweep : (y : Layout) (i m : ℕ) (k : Instructions) → held_swept Arrays y.bases i m k ≡ arrays_swept y i m k
arrays_sweep y i zero k = refl
arrays_sweep y i (suc m) k = ap (let_go FreeArray (array_local y.bases i)) (arrays_sweep y (suc i) m k)

-- and all of them

pub held_swept_all : (y : Layout) (k : Instructions) →
    held_swept Temporaries y.bases zero y.bases.temporaries (held_swept Iterators y.bases zero y.bases.iterators (held_swept Arrays y.bases zero y.bases.arrays k)) ≡ swept y k
held_swept_all y k =
    temporaries_sweep y zero y.bases.temporaries _
    ∙ ap (temporaries_swept y zero y.bases.temporaries) (iterators_sweep y zero y.bases.iterators _ ∙ ap (iterators_swept y zero y.bases.iterators) (arrays_sweep y zero y.bases.arrays k))

pub operands_sweep : (y : Layout) (k : Instructions) →
    held_swept Temporaries y.bases zero y.bases.temporaries (held_swept Arrays y.bases zero y.bases.arrays k) ≡ operands_swept y k
operands_sweep y k = temporaries_sweep y zero y.bases.temporaries _ ∙ ap (temporaries_swept y zero y.bases.temporaries) (arrays_sweep y zero y.bases.arrays k)

pub held_emptied_all : (y : Layout) (k : Instructions) →
    emit (I64Const was_left) (emit (LocalSet (answer_local y.bases)) (held_emptied Temporaries y.bases zero y.bases.temporaries (held_emptied Iterators y.bases zero y.bases.iterators (held_emptied Arrays y.bases zero y.bases.arrays k)))) ≡ all_emptied y k
held_emptied_all y k =
    ap (λ (x : Instructions). emit (I64Const was_left) (emit (LocalSet (answer_local y.bases)) x)) (temporaries_empty y zero y.bases.temporaries _
    ∙ ap (temporaries_emptied y zero y.bases.temporaries) (iterators_empty y zero y.bases.iterators _ ∙ ap (iterators_emptied y zero y.bases.iterators) (arrays_empty y zero y.bases.arrays k)))

-- what `next` and `exit` left: all, or no more than iterators where there are no functions

pub no_functions : (rs : List Routine) → length rs ≡ 0 → has_functions (map (λ (r : plain.Routine). r.parameters) (map view_routine rs)) ≡ false
no_functions [] e = refl
no_functions (r ∷ rs) e = absurd (omega (arith, e))

pub some_functions : (rs : List Routine) → 0 < length rs → has_functions (map (λ (r : plain.Routine). r.parameters) (map view_routine rs)) ≡ true
some_functions [] lt = absurd (omega (arith, lt))
some_functions (r ∷ rs) lt = refl

pub iterators_left : (y : Layout) (calls : Bool) (k : Instructions) → calls ≡ false → held_swept Iterators y.bases zero y.bases.iterators k ≡ left_swept y calls k
iterators_left y calls k e = iterators_sweep y zero y.bases.iterators k ∙ ap (λ (z : Bool). left_swept y z k) (sym e)

pub all_left : (y : Layout) (calls : Bool) (k : Instructions) → calls ≡ true → swept y k ≡ left_swept y calls k
all_left y calls k e = ap (λ (z : Bool). left_swept y z k) (sym e)
