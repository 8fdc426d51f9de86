-- Where a step begins the machine is tidy, so that it goes on past the `nop` there.
use Rattle.std.proofs.Common.{◌≡◌, inl, inr, ℕ, zero, suc, ◌+◌, ◌<◌, ◌≤◌, Bool, true, false, List, [], ◌∷◌, ◌++◌, length, Option, Some, None, refl, sym, ap, ap₂, ◌∙◌, append-nil, arith}
use Rattle.std.specs.Prelude.{drop, get_or, not, ◌&&◌, cond, nat_eq}
use Rattle.std.proofs.lemmas.Bool.{eq-eqb}
use Rattle.std.proofs.lemmas.List.{take_at, drop_at}
use Rattle.awk_values.specs.declared.value.Value.{Value}
use Rattle.wasm_types.specs.Syntax.{Instructions}
use Rattle.wasm_types.specs.declared.instr.Simple.TheVariants.{Nop}
use Rattle.mid_program.specs.Mid.{Kind, Boxed, Unboxed, ArrayKind, Program}
use Rattle.awk_values.specs.declared.value.Value.TheVariants.{Uninit}
use Rattle.wasm_store.specs.declared.word.Word.TheVariants.{I64}
use Rattle.sem_scripts.specs.ScriptState.{State, Stop, Execution, ◌>>◌, Local, Scalar, global_value, value_in_local}
use Rattle.sem_scripts.specs.Statements.{Flow}
use Rattle.mid_program.specs.Sorted.{has_kind, lender_at, same_kind, kinds_of}
use Rattle.lower_model.specs.Cells.{Cell, Bits, Held, IteratorOf, OwnedArray, LentArray, Gone, is_owned, none_owned, is_held, is_array, is_iterator, no_temporary, count_cells, iterators_in, tidy_locals, tidy_name, each_name, globals_by, is_bare, mark_fits, marks_fit}
use Rattle.lower_model.specs.Machine.{Conf, Label, Frame, at, guarded, loops_walked}
use Rattle.lower_model.specs.Noted.{noted, noting}
use Rattle.lower_model.specs.Places.{Bases}
use Rattle.lower_model.specs.Small.{emit}
use Rattle.lower_model.proofs.Observer.{Observer}
use Rattle.lower_model.proofs.Runs.{Goes, first}
use Rattle.lower_model.proofs.Regions.{cells, pairs, cells_length}
use Rattle.lower_model.proofs.Globals.{Globals, names_on, placed}
use Rattle.lower_model.proofs.Locals.{Locals, temporaries_on, laid}
use Rattle.lower_model.proofs.Steps.{empty}
use Rattle.lower_model.proofs.State.{bare, beside, BareParameter, kind_here, arrays_before, name_hand, name_word, cells_of, word_not_beside, BareOf, IsBeside, IsNone, IsNumber}
use Rattle.lower_model.proofs.Relation.{Fit, IsWalk, ParamIs, ParamLoose, fit_loose, param_loose}
use Rattle.lower_model.proofs.Conversions.{bare_is}
use Rattle.lower_model.proofs.Answers.{machine, beside_state, Reached}
use Rattle.lower_model.proofs.StatementForms.{Starts}

-- What holds no value and no array that is to be freed.

abbrev is_fine : Cell → Bool
is_fine c = not (is_held c) && not (is_array c)

unowned_fine : (c : Cell) → is_owned c ≡ false → is_fine c ≡ true
unowned_fine (Bits w) e = refl
unowned_fine (Held v) e = cc
unowned_fine (IteratorOf t) e = refl
unowned_fine (OwnedArray a) e = cc
unowned_fine (LentArray a) e = refl
unowned_fine Gone e = refl

pub unowned_still : (c : Cell) → is_owned c ≡ false → is_iterator c ≡ false
unowned_still (Bits w) e = refl
unowned_still (Held v) e = refl
unowned_still (IteratorOf t) e = cc
unowned_still (OwnedArray a) e = refl
unowned_still (LentArray a) e = refl
unowned_still Gone e = refl

walk_fine : (c : Cell) → IsWalk c → is_fine c ≡ true
walk_fine c (inl e) = ap is_fine e
walk_fine c (inr q) = ap is_fine q.1

fine_cells : (f : ℕ → Cell) (n : ℕ) (rest : List Cell) → ((i : ℕ) → is_fine (f i) ≡ true) → no_temporary rest ≡ true → no_temporary (cells f n ++ rest) ≡ true
fine_cells f zero rest h r = r
fine_cells f (suc n) rest h r = ap₂ (λ x y. x && y) (h zero) (fine_cells (λ i. f (suc i)) n rest (λ i. h (suc i)) r)

fine_pairs : (f g : ℕ → Cell) (n : ℕ) (rest : List Cell) → ((i : ℕ) → is_fine (f i) ≡ true) → ((i : ℕ) → is_fine (g i) ≡ true) → no_temporary rest ≡ true → no_temporary (pairs f g n ++ rest) ≡ true
fine_pairs f g zero rest h k r = r
fine_pairs f g (suc n) rest h k r =
    ap₂ (λ x y. x && y) (h zero) (ap₂ (λ x y. x && y) (k zero) (fine_pairs (λ i. f (suc i)) (λ i. g (suc i)) n rest (λ i. h (suc i)) (λ i. k (suc i)) r))

-- Cells of a sort are counted: others add nothing.

pub passed : (q : Cell → Bool) (c : Cell) (m : ℕ) → q c ≡ false → cond (q c) (suc m) m ≡ m
passed q c m e = ap (λ t. cond t (suc m) m) e

pub still_cells : (q : Cell → Bool) (f : ℕ → Cell) (n : ℕ) (rest : List Cell) → ((i : ℕ) → q (f i) ≡ false) → count_cells q (cells f n ++ rest) ≡ count_cells q rest
still_cells q f zero rest h = refl
still_cells q f (suc n) rest h = passed q (f zero) (count_cells q (cells (λ i. f (suc i)) n ++ rest)) (h zero) ∙ still_cells q (λ i. f (suc i)) n rest (λ i. h (suc i))

pub still_pairs : (q : Cell → Bool) (f g : ℕ → Cell) (n : ℕ) (rest : List Cell) → ((i : ℕ) → q (f i) ≡ false) → ((i : ℕ) → q (g i) ≡ false) → count_cells q (pairs f g n ++ rest) ≡ count_cells q rest
still_pairs q f g zero rest h k = refl
still_pairs q f g (suc n) rest h k =
    passed q (f zero) (count_cells q (g zero ∷ (pairs (λ i. f (suc i)) (λ i. g (suc i)) n ++ rest))) (h zero)
    ∙ (passed q (g zero) (count_cells q (pairs (λ i. f (suc i)) (λ i. g (suc i)) n ++ rest)) (k zero)
    ∙ still_pairs q (λ i. f (suc i)) (λ i. g (suc i)) n rest (λ i. h (suc i)) (λ i. k (suc i)))

pub walked_cells : (f : ℕ → Cell) (n u : ℕ) (rest : List Cell) → u ≤ n → ((x : ℕ) → x < u → (t : ℕ) × (f x ≡ IteratorOf t)) → ((x : ℕ) → u ≤ x → f x ≡ empty) → iterators_in (cells f n ++ rest) ≡ u + iterators_in rest
walked_cells f n zero rest le h k = still_cells is_iterator f n rest (λ i. ap is_iterator (k i (omega arith))) ∙ omega arith
walked_cells f zero (suc u) rest le h k = absurd (omega (arith, le))
walked_cells f (suc n) (suc u) rest le h k =
    let q = h zero (omega arith) in
    let m = iterators_in (cells (λ i. f (suc i)) n ++ rest) in
    let r = walked_cells (λ i. f (suc i)) n u rest (omega (arith, le)) (λ x lt. h (suc x) (omega (arith, lt))) (λ x lx. k (suc x) (omega (arith, lx))) in
    ap (λ c. cond (is_iterator c) (suc m) m) q.1 ∙ omega (arith, r)

-- Globals.

names_fine : (ok : Kind → Cell → Bool) (kinds : List Kind) (h g : ℕ → Cell) → ((i : ℕ) → ok (kind_here kinds i) (h i) ≡ true) → ((i : ℕ) → is_owned (g i) ≡ false) → each_name ok kinds (pairs h g (length kinds) ++ []) ≡ true
names_fine ok [] h g e o = refl
names_fine ok (k ∷ kinds) h g e o = ap₂ (λ x y. x && y) (ap₂ (λ x y. x && not y) (e zero) (o zero)) (names_fine ok kinds (λ i. h (suc i)) (λ i. g (suc i)) (λ i. e (suc i)) (λ i. o (suc i)))

pub unowned_cells : (f : ℕ → Cell) (n : ℕ) (rest : List Cell) → ((i : ℕ) → i < n → is_owned (f i) ≡ false) → none_owned rest ≡ true → none_owned (cells f n ++ rest) ≡ true
unowned_cells f zero rest h r = r
unowned_cells f (suc n) rest h r = ap₂ (λ x y. not x && y) (h zero (omega arith)) (unowned_cells (λ i. f (suc i)) n rest (λ i lt. h (suc i) (omega (arith, lt))) r)

pub unowned_pairs : (f g : ℕ → Cell) (n : ℕ) (rest : List Cell) → ((i : ℕ) → i < n → is_owned (f i) ≡ false) → ((i : ℕ) → i < n → is_owned (g i) ≡ false) → none_owned rest ≡ true → none_owned (pairs f g n ++ rest) ≡ true
unowned_pairs f g zero rest h k r = r
unowned_pairs f g (suc n) rest h k r =
    ap₂ (λ x y. not x && y) (h zero (omega arith)) (ap₂ (λ x y. not x && y) (k zero (omega arith))
    (unowned_pairs (λ i. f (suc i)) (λ i. g (suc i)) n rest (λ i lt. h (suc i) (omega (arith, lt))) (λ i lt. k (suc i) (omega (arith, lt))) r))

beside_tidy : (v : Value) → BareOf v → tidy_name Unboxed (beside v) ≡ true
beside_tidy v (IsBeside e e1) = ap (tidy_name Unboxed) e1
beside_tidy v (IsNone e e1 e2) = ap (tidy_name Unboxed) e2
beside_tidy v (IsNumber m e e1 e2) = ap (tidy_name Unboxed) e2

bare_fine : (v : Value) → beside v ≡ empty → is_bare (Bits (I64 (bare v))) ≡ true
bare_fine v q = by (bare_is v)
  where
    by : BareOf v → is_bare (Bits (I64 (bare v))) ≡ true
    by (IsBeside e e1) = let z : is_held empty ≡ true = ap is_held (sym q ∙ e1) in cc
    by (IsNone e e1 e2) = ap (λ n. is_bare (Bits (I64 n))) e1
    by (IsNumber m e e1 e2) = ap (λ n. is_bare (Bits (I64 n))) e1 ∙ ap not (word_not_beside m)

parameter_fine : (o : Option ℕ) (gs : List Value) (v : Value) (c : Cell) → BareParameter o gs v c → is_bare c ≡ true
parameter_fine None gs v c q = ap is_bare q.1 ∙ (ap (λ m. is_bare (Bits (I64 m))) q.2.0 ∙ bare_fine v q.2.1)
parameter_fine (Some g) gs v c q =
    ap is_bare q.1 ∙ elim q.2 [ inl y ↦ ap (λ m. is_bare (Bits (I64 m))) y.2 ∙ ap not (word_not_beside y.0) | inr y ↦ ap (λ m. is_bare (Bits (I64 m))) y.0 ]

mark_fine : (k : Kind) (a : ℕ) (v : Value) → mark_fits k (name_hand k a v) (Bits (I64 (name_word k v))) ≡ true
mark_fine Boxed a v = refl
mark_fine ArrayKind a v = refl
mark_fine Unboxed a v = by (bare_is v)
  where
    by : BareOf v → mark_fits Unboxed (beside v) (Bits (I64 (bare v))) ≡ true
    by (IsBeside e e1) = ap₂ (λ c n. mark_fits Unboxed c (Bits (I64 n))) e1 e
    by (IsNone e e1 e2) = ap₂ (λ c n. mark_fits Unboxed c (Bits (I64 n))) e2 e1
    by (IsNumber m e e1 e2) = ap₂ (λ c n. mark_fits Unboxed c (Bits (I64 n))) e2 e1 ∙ ap not (word_not_beside m)

pub name_tidy : (k : Kind) (a : ℕ) (v : Value) → tidy_name k (name_hand k a v) ≡ true
name_tidy Boxed a v = refl
name_tidy Unboxed a v = beside_tidy v (bare_is v)
name_tidy ArrayKind a v = refl

-- globals that hold nothing before the names, and names that have what they are to have
pub placed_fine : (p : Program) (ok : Kind → Cell → Bool) (g : Globals) → is_owned g.way ≡ false → is_owned g.status ≡ false → is_owned g.text ≡ false → ((i : ℕ) → is_owned (g.range i) ≡ false) → ((i : ℕ) → ok (kind_here (kinds_of p.globals) i) (g.hand i) ≡ true) → ((i : ℕ) → is_owned (g.number i) ≡ false) →
    globals_by ok (suc (suc (suc p.ranges))) (kinds_of p.globals) (placed p.ranges (length (kinds_of p.globals)) g) ≡ true
placed_fine p ok g ew es et er eh en =
    let kinds = kinds_of p.globals in
    let front : List Cell = g.way ∷ (g.status ∷ (g.text ∷ (cells g.range p.ranges ++ []))) in
    let shape : g.way ∷ (g.status ∷ (g.text ∷ cells g.range p.ranges)) ≡ front = ap (λ r. g.way ∷ (g.status ∷ (g.text ∷ r))) (sym (append-nil (cells g.range p.ranges))) in
    let size : length (g.way ∷ (g.status ∷ (g.text ∷ cells g.range p.ranges))) ≡ suc (suc (suc p.ranges)) = ap (λ m. suc (suc (suc m))) (cells_length g.range p.ranges) in
    ap₂ (λ x y. none_owned x && each_name ok kinds y)
    (take_at (g.way ∷ (g.status ∷ (g.text ∷ cells g.range p.ranges))) (names_on p.ranges (length kinds) g) (suc (suc (suc p.ranges))) size ∙ shape)
    (drop_at (g.way ∷ (g.status ∷ (g.text ∷ cells g.range p.ranges))) (names_on p.ranges (length kinds) g) (suc (suc (suc p.ranges))) size)
    ∙ ap₂ (λ x y. x && y) (ap₂ (λ x y. not x && y) ew (ap₂ (λ x y. not x && y) es (ap₂ (λ x y. not x && y) et (unowned_cells g.range p.ranges [] (λ i lt. er i) refl)))) (names_fine ok kinds g.hand g.number eh en)

-- the same beside a state, whichever way a function is being left
pub globals_fine : (p : Program) (ok : Kind → Cell → Bool) (way : ℕ) (σ : State) → ((k : Kind) (a : ℕ) (v : Value) → ok k (name_hand k a v) ≡ true) → globals_by ok (suc (suc (suc p.ranges))) (kinds_of p.globals) (placed p.ranges (length (kinds_of p.globals)) (cells_of (kinds_of p.globals) way σ)) ≡ true
globals_fine p ok way σ fine =
    let kinds = kinds_of p.globals in
    placed_fine p ok (cells_of kinds way σ) refl refl refl (λ i. refl) (λ i. fine (kind_here kinds i) (suc (suc (arrays_before kinds i))) (global_value i σ)) (λ i. refl)

pub each_mark : (kinds : List Kind) (h g : ℕ → Cell) → ((i : ℕ) → mark_fits (kind_here kinds i) (h i) (g i) ≡ true) → marks_fit kinds (pairs h g (length kinds) ++ []) ≡ true
each_mark [] h g e = refl
each_mark (k ∷ kinds) h g e = ap₂ (λ x y. x && y) (e zero) (each_mark kinds (λ i. h (suc i)) (λ i. g (suc i)) (λ i. e (suc i)))

marks_fine : (p : Program) (way : ℕ) (σ : State) → marks_fit (kinds_of p.globals) (drop (suc (suc (suc p.ranges))) (placed p.ranges (length (kinds_of p.globals)) (cells_of (kinds_of p.globals) way σ))) ≡ true
marks_fine p way σ =
    let kinds = kinds_of p.globals in
    let g = cells_of kinds way σ in
    let size : length (g.way ∷ (g.status ∷ (g.text ∷ cells g.range p.ranges))) ≡ suc (suc (suc p.ranges)) = ap (λ m. suc (suc (suc m))) (cells_length g.range p.ranges) in
    ap (marks_fit kinds) (drop_at (g.way ∷ (g.status ∷ (g.text ∷ cells g.range p.ranges))) (names_on p.ranges (length kinds) g) (suc (suc (suc p.ranges))) size)
    ∙ each_mark kinds g.hand g.number (λ i. mark_fine (kind_here kinds i) (suc (suc (arrays_before kinds i))) (global_value i σ))

pub same_self : (k : Kind) → same_kind k k ≡ true
same_self Boxed = refl
same_self Unboxed = refl
same_self ArrayKind = refl

module _ (p : Program) (deepest : Observer) (ks : List Kind) (F : List Frame) (b : Bases) (M n : ℕ) where
  -- parameters hold values, and nothing else that is owned
  module _ (q : Cell → Bool) (value : (v : Value) → q (Held v) ≡ false) (other : (c : Cell) → is_owned c ≡ false → q c ≡ false) where
    loose_still : (k : Kind) (c : Cell) → ParamLoose p deepest ks F k c → q c ≡ false
    loose_still Boxed c h = ap q h.1 ∙ value h.0
    loose_still Unboxed c h = other c h
    loose_still ArrayKind c h = other c h

    pub still_parameters : (js : List Kind) (f : ℕ → Cell) (rest : List Cell) → ((i : ℕ) (k : Kind) → has_kind js i k ≡ true → ParamLoose p deepest ks F k (f i)) → count_cells q (cells f (length js) ++ rest) ≡ count_cells q rest
    still_parameters [] f rest h = refl
    still_parameters (k ∷ js) f rest h =
        passed q (f zero) (count_cells q (cells (λ i. f (suc i)) (length js) ++ rest)) (loose_still k (f zero) (h zero k (same_self k)))
        ∙ still_parameters js (λ i. f (suc i)) rest (λ i j e. h (suc i) j e)

  tidy_parameters : (lender : ℕ → Option ℕ) (gs : List Value) (js : List Kind) (o : ℕ → Local) (f : ℕ → Cell) (rest : List Cell) → ((i : ℕ) (k : Kind) → has_kind js i k ≡ true → ParamIs p deepest ks F (lender i) gs k (o i) (f i)) → no_temporary rest ≡ true → tidy_locals js (cells f (length js) ++ rest) ≡ true
  tidy_parameters lender gs [] o f rest h r = r
  tidy_parameters lender gs (Boxed ∷ js) o f rest h r = ap₂ (λ x y. x && y) (ap is_held (h zero Boxed refl)) (tidy_parameters (λ i. lender (suc i)) gs js (λ i. o (suc i)) (λ i. f (suc i)) rest (λ i j e. h (suc i) j e) r)
  tidy_parameters lender gs (Unboxed ∷ js) o f rest h r = ap₂ (λ x y. x && y) (parameter_fine (lender zero) gs (value_in_local (o zero)) (f zero) (h zero Unboxed refl)) (tidy_parameters (λ i. lender (suc i)) gs js (λ i. o (suc i)) (λ i. f (suc i)) rest (λ i j e. h (suc i) j e) r)
  tidy_parameters lender gs (ArrayKind ∷ js) o f rest h r = ap₂ (λ x y. not x && y) (param_loose p deepest ks F (lender zero) gs ArrayKind (o zero) (f zero) (h zero ArrayKind refl)) (tidy_parameters (λ i. lender (suc i)) gs js (λ i. o (suc i)) (λ i. f (suc i)) rest (λ i j e. h (suc i) j e) r)

  -- the locals behind the parameters
  abbrev behind : Locals → List Cell
  behind l = l.answer ∷ temporaries_on b l

  behind_fine : (u : ℕ) (K : List Label) (l : Locals) (σ : State) → Starts p deepest ks F b M n u K l σ → no_temporary (behind l) ≡ true
  behind_fine u K l σ s =
      ap₂ (λ x y. x && y) (ap is_fine s.fit.answer)
      (fine_pairs l.hand l.number b.temporaries (cells l.iterator b.iterators ++ (cells l.array b.arrays ++ [])) (λ i. ap is_fine (s.fit.free i (omega arith))) (λ i. unowned_fine (l.number i) (s.fit.numbers i))
      (fine_cells l.iterator b.iterators (cells l.array b.arrays ++ []) (λ i. walk_fine (l.iterator i) (s.fit.walks i))
      (fine_cells l.array b.arrays [] (λ i. ap is_fine (s.fit.spare i (omega arith))) refl)))

  behind_walked : (u : ℕ) (K : List Label) (l : Locals) (σ : State) → Starts p deepest ks F b M n u K l σ → iterators_in (behind l) ≡ u
  behind_walked u K l σ s =
      let e = walked_cells l.iterator b.iterators u (cells l.array b.arrays ++ []) s.walks s.walked (λ x le. s.fit.still x le) in
      let a = still_cells is_iterator l.array b.arrays [] (λ i. ap is_iterator (s.fit.spare i (omega arith))) in
      passed is_iterator l.answer (iterators_in (temporaries_on b l)) (ap is_iterator s.fit.answer)
      ∙ (still_pairs is_iterator l.hand l.number b.temporaries (cells l.iterator b.iterators ++ (cells l.array b.arrays ++ [])) (λ i. ap is_iterator (s.fit.free i (omega arith))) (λ i. unowned_still (l.number i) (s.fit.numbers i))
      ∙ (e ∙ omega (arith, a)))

  locals_tidy : (u : ℕ) (K : List Label) (l : Locals) (σ : State) → Starts p deepest ks F b M n u K l σ → tidy_locals ks (laid b l) ≡ true
  locals_tidy u K l σ s =
      ap (λ m. tidy_locals ks (cells l.param m ++ behind l)) (sym s.parameters) ∙ tidy_parameters (lender_at p.lenders) σ.globals ks (λ i. get_or σ.own.locals i (Scalar Uninit)) l.param (behind l) s.fit.params (behind_fine u K l σ s)

  locals_walked : (u : ℕ) (K : List Label) (l : Locals) (σ : State) → Starts p deepest ks F b M n u K l σ → nat_eq (iterators_in (laid b l)) (loops_walked K) ≡ true
  locals_walked u K l σ s =
      let lo = fit_loose p deepest ks F 0 u 0 l σ s.fit in
      eq-eqb (iterators_in (laid b l)) (loops_walked K)
      (ap (λ m. iterators_in (cells l.param m ++ behind l)) (sym s.parameters) ∙ (still_parameters is_iterator (λ v. refl) unowned_still ks l.param (behind l) lo.params ∙ (behind_walked u K l σ s ∙ sym s.loops)))

  -- a `nop` where a step begins
  pub nop_ok : {k : Instructions} → (u : ℕ) (K : List Label) (l : Locals) (σ : State) → Starts p deepest ks F b M n u K l σ →
      Goes (machine p deepest ks F) 1 (at ks [] K (laid b l) F (emit Nop k) (beside_state p deepest ks F σ)) (at ks [] K (laid b l) F k (beside_state p deepest ks F (noting deepest.notes (emit Nop k) σ)))
  nop_ok {k = k} u K l σ s = record {
    it = ap (λ t. guarded t (at ks [] K (laid b l) F k (beside_state p deepest ks F (noting deepest.notes (emit Nop k) σ)))) (
        ap₂ (λ x y. (true && true) && (x && y)) (ap₂ (λ x y. x && y) (locals_tidy u K l σ s) (locals_walked u K l σ s)) (ap₂ (λ x y. x && y) (globals_fine p tidy_name 0 σ name_tidy) (marks_fine p 0 σ))
        );
  }

  fit_noted : (c : Instructions) (t u w : ℕ) (l : Locals) (σ : State) → Fit p deepest ks F t u w l σ → Fit p deepest ks F t u w l (noting deepest.notes c σ)
  fit_noted c t u w l σ f = record { params = f.params; size = f.size; answer = f.answer; hands = f.hands; numbers = f.numbers; free = f.free; walks = f.walks; still = f.still; yards = f.yards; spare = f.spare; sound = record { room = f.sound.room; names = f.sound.names; calm = record { pending = f.sound.calm.pending; names = f.sound.calm.names; few = f.sound.calm.few }; lend = f.sound.lend } }

  pub starts_noted : (c : Instructions) (u : ℕ) (K : List Label) (l : Locals) (σ : State) → Starts p deepest ks F b M n u K l σ → Starts p deepest ks F b M n u K l (noting deepest.notes c σ)
  starts_noted c u K l σ s = record { fit = fit_noted c 0 u 0 l σ s.fit; walked = s.walked; walks = s.walks; loops = s.loops; turns = s.turns; parameters = s.parameters }

  -- where a step begins its place is noted, and then it does what it means
  pub begun_step : (k : Instructions) (w w1 u : ℕ) (K : List Label) (l : Locals) (σ : State) (P : Flow → State → Conf → Type 0) (Q : Stop → State → Conf → Type 0) (m : Execution Flow) → 1 + w ≤ w1 → Starts p deepest ks F b M n u K l σ →
      ((τ : State) → Starts p deepest ks F b M n u K l τ → Reached p deepest ks F b M w τ.turns (at ks [] K (laid b l) F k (beside_state p deepest ks F τ)) P Q (m τ)) →
      Reached p deepest ks F b M w1 σ.turns (at ks [] K (laid b l) F (emit Nop k) (beside_state p deepest ks F σ)) P Q ((noted deepest.notes (emit Nop k) >> m) σ)
  begun_step k w w1 u K l σ P Q m le s next =
      let c = emit Nop k in
      first (machine p deepest ks F) M 1 w w1 σ.turns _ _ P Q (m (noting deepest.notes c σ)) (nop_ok u K l σ s) le (next (noting deepest.notes c σ) (starts_noted c u K l σ s))
