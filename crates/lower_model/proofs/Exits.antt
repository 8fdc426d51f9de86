-- The exit of a function: what its locals hold is let go, its parameters' values are dropped, and the caller goes on with its answer. And its beginning: its locals are emptied.
use Rattle.std.proofs.Common.{◌≡◌, ◌≢◌, inl, inr, ℕ, zero, suc, ◌+◌, ◌*◌, ◌<◌, ◌≤◌, true, false, List, [], ◌∷◌, ◌++◌, length, refl, sym, ap, ap₂, ◌∙◌, subst, arith}
use Rattle.std.specs.Prelude.{◌&&◌, not}
use Rattle.std.proofs.lemmas.Bool.{cases_eq}
use Rattle.wasm_types.specs.Syntax.{Instructions, Done}
use Rattle.wasm_types.specs.declared.instr.Simple.TheVariants.{LocalGet}
use Rattle.mid_program.specs.Mid.{Kind, Boxed, Unboxed, ArrayKind, Program}
use Rattle.mid_program.specs.Sorted.{has_kind}
use Rattle.lower_model.specs.Cells.{Cell, Held, Gone, is_owned, left_by, none_owned}
use Rattle.lower_model.specs.Emission.{Layout}
use Rattle.lower_model.specs.Functions.{layout_of}
use Rattle.lower_model.specs.Machine.{Code, Label, Frame, Store, at, guarded, leave_function}
use Rattle.lower_model.specs.Places.{Bases, answer_local, iterator_local, array_local, handle_local}
use Rattle.lower_model.specs.Small.{emit, emptied, let_go}
use Rattle.lower_model.specs.Statements.{temporaries_emptied, iterators_emptied, arrays_emptied, temporaries_swept, iterators_swept, arrays_swept, swept, operands_swept, left_swept, has_functions, parameters_dropped, routine_exit}
use Rattle.host_imports.specs.declared.import.Import.{Import}
use Rattle.host_imports.specs.declared.import.Import.TheVariants.{Drop, IterFree, FreeArray}
use Rattle.lower_model.proofs.Observer.{Observer}
use Rattle.lower_model.proofs.Runs.{Goes, goes_from, then_goes, by_steps, stays}
use Rattle.lower_model.proofs.Regions.{cells, upd_other}
use Rattle.lower_model.proofs.Locals.{Locals, Place, Param, Answer, Hand, Number, Iterator, Array, local_of, has, with_at, has_with, temporaries_on, laid}
use Rattle.lower_model.proofs.Steps.{empty, unanswered, left_unowned, get_moved, emptied_ok}
use Rattle.lower_model.proofs.Relation.{IsHand, IsWalk, IsYard, ParamLoose, Loose}
use Rattle.lower_model.proofs.Pieces.{LetGo, let_go_hand, let_go_walk, let_go_yard, drop_ok}
use Rattle.lower_model.proofs.Answers.{machine}
use Rattle.lower_model.proofs.Tidy.{unowned_cells, unowned_pairs}

-- the other places are as they were
pub other_has : (l : Locals) (p q : Place) (c : Cell) → q ≢ p → has (with_at l p c) q ≡ has l q
other_has l (Param i) (Param j) c ne = upd_other l.param i j c (λ e. ne (ap Param e))
other_has l Answer Answer c ne = absurd (ne refl)
other_has l (Hand i) (Hand j) c ne = upd_other l.hand i j c (λ e. ne (ap Hand e))
other_has l (Number i) (Number j) c ne = upd_other l.number i j c (λ e. ne (ap Number e))
other_has l (Iterator i) (Iterator j) c ne = upd_other l.iterator i j c (λ e. ne (ap Iterator e))
other_has l (Array i) (Array j) c ne = upd_other l.array i j c (λ e. ne (ap Array e))
other_has l p q c ne = refl

abbrev index : Place → ℕ
index Answer = zero
index (Param i) = i
index (Hand i) = i
index (Number i) = i
index (Iterator i) = i
index (Array i) = i

-- code for so many places, from one on
abbrev in_order : (ℕ → Instructions → Instructions) → ℕ → ℕ → Instructions → Instructions
in_order f t zero k = k
in_order f t (suc m) k = f t (in_order f (suc t) m k)

abbrev One : (ℕ → Place) → Type 0
One place = (x y : ℕ) → place x ≡ place y → x ≡ y

hand_one : One Hand
hand_one x y e = ap index e

iterator_one : One Iterator
iterator_one x y e = ap index e

array_one : One Array
array_one x y e = ap index e

-- places from t on are emptied, m of them
pub record Clears (u : Code) (ks : List Kind) (F : List Frame) (b : Bases) (K : List Label) (G : Store) (place : ℕ → Place) (Fine : Cell → Type 0) (t m : ℕ) (l : Locals) (c k : Instructions) : Type 0 where
  pub next : Locals
  pub steps : ℕ
  pub few : steps ≤ 8 * m
  pub goes : Goes u steps (at ks [] K (laid b l) F c G) (at ks [] K (laid b next) F k G)
  pub empties : (x : ℕ) → t ≤ x → x < t + m → has next (place x) ≡ empty
  pub fine : (x : ℕ) → Fine (has next (place x))
  pub others : (q : Place) → ((x : ℕ) → t ≤ x → q ≢ place x) → has next q ≡ has l q

pub record Empties (u : Code) (ks : List Kind) (F : List Frame) (b : Bases) (K : List Label) (G : Store) (p : Place) (l : Locals) (c k : Instructions) : Type 0 where
  pub steps : ℕ
  pub few : steps ≤ 8
  pub goes : Goes u steps (at ks [] K (laid b l) F c G) (at ks [] K (laid b (with_at l p empty)) F k G)

-- all locals for handles, iterators and arrays are empty, and the others are as they were
pub record Cleared (u : Code) (ks : List Kind) (F : List Frame) (b : Bases) (K : List Label) (G : Store) (most : ℕ) (l : Locals) (c k : Instructions) : Type 0 where
  pub next : Locals
  pub steps : ℕ
  pub few : steps ≤ most
  pub goes : Goes u steps (at ks [] K (laid b l) F c G) (at ks [] K (laid b next) F k G)
  pub hands : (x : ℕ) → x < b.temporaries → next.hand x ≡ empty
  pub iterators : (x : ℕ) → x < b.iterators → next.iterator x ≡ empty
  pub arrays : (x : ℕ) → x < b.arrays → next.array x ≡ empty
  pub numbers : (x : ℕ) → next.number x ≡ l.number x
  pub params : (i : ℕ) → next.param i ≡ l.param i
  pub answer : next.answer ≡ l.answer

module _ {u : Code} {ks : List Kind} {F : List Frame} (b : Bases) (K : List Label) (G : Store) where
  module _ (place : ℕ → Place) (one : One place) (Fine : Cell → Type 0) (nothing : Fine empty) (f : ℕ → Instructions → Instructions) (limit : ℕ)
      (each : (x : ℕ) (l : Locals) (k : Instructions) → x < limit → Fine (has l (place x)) → Empties u ks F b K G (place x) l (f x k) k) where
    still_fine : (l : Locals) (t : ℕ) → ((x : ℕ) → Fine (has l (place x))) → (x : ℕ) → Fine (has (with_at l (place t) empty) (place x))
    still_fine l t h x = elim (cases_eq x t) [
      | inl e ↦ fine_at (has (with_at l (place t) empty) (place x)) (ap (λ y. has (with_at l (place t) empty) (place y)) e ∙ has_with l (place t) empty)
      | inr ne ↦ fine_by (has (with_at l (place t) empty) (place x)) (has l (place x)) (other_has l (place t) (place x) empty (λ q. ne (one x t q))) (h x)
    ]
      where
        fine_at : (c : Cell) → c ≡ empty → Fine c
        fine_at c e = subst Fine (sym e) nothing

        fine_by : (c d : Cell) → c ≡ d → Fine d → Fine c
        fine_by c d e q = subst Fine (sym e) q

    pub clear : (t m : ℕ) (l : Locals) (k : Instructions) → t + m ≤ limit → ((x : ℕ) → Fine (has l (place x))) → Clears u ks F b K G place Fine t m l (in_order f t m k) k
    clear t zero l k le h = record { next = l; steps = 0; few = omega arith; goes = stays; empties = λ x lx ly. absurd (omega (arith, lx, ly)); fine = h; others = λ q ne. refl }
    clear t (suc m) l k le h =
        let l1 = with_at l (place t) empty in
        let o = each t l (in_order f (suc t) m k) (omega (arith, le)) (h t) in
        let r = clear (suc t) m l1 k (omega (arith, le)) (still_fine l t h) in
        record {
          next = r.next;
          steps = o.steps + r.steps;
          few = omega (arith, o.few, r.few);
          goes = then_goes o.goes r.goes;
          empties = λ x lx ly. elim (cases_eq x t) [
            | inl e ↦ ap (λ y. has r.next (place y)) e ∙ (r.others (place t) (λ y lz q. omega (arith, lz, one t y q)) ∙ has_with l (place t) empty)
            | inr ne ↦ r.empties x (omega (arith, lx, ne)) (omega (arith, ly))
          ];
          fine = r.fine;
          others = λ q ne. r.others q (λ y ly. ne y (omega (arith, ly))) ∙ other_has l (place t) q empty (ne t (omega arith));
        }

  let_go_empties : (i : Import) (p : Place) (l : Locals) (k : Instructions) → LetGo u ks F b i p K l k G → Empties u ks F b K G p l (let_go i (local_of b p) k) k
  let_go_empties i p l k g = record { steps = g.steps; few = g.few; goes = g.goes }

  -- the three regions, one after the other
  all_cleared : (f g e : ℕ → Instructions → Instructions) (l : Locals) (k : Instructions) (Hs Ws Ys : Cell → Type 0) → Hs empty → Ws empty → Ys empty →
      ((x : ℕ) (l : Locals) (k : Instructions) → x < b.temporaries → Hs (l.hand x) → Empties u ks F b K G (Hand x) l (f x k) k) →
      ((x : ℕ) (l : Locals) (k : Instructions) → x < b.iterators → Ws (l.iterator x) → Empties u ks F b K G (Iterator x) l (g x k) k) →
      ((x : ℕ) (l : Locals) (k : Instructions) → x < b.arrays → Ys (l.array x) → Empties u ks F b K G (Array x) l (e x k) k) →
      ((x : ℕ) → Hs (l.hand x)) → ((x : ℕ) → Ws (l.iterator x)) → ((x : ℕ) → Ys (l.array x)) →
      Cleared u ks F b K G (8 * (b.temporaries + (b.iterators + b.arrays))) l (in_order f zero b.temporaries (in_order g zero b.iterators (in_order e zero b.arrays k))) k
  all_cleared f g e l k Hs Ws Ys h0 w0 y0 fo go eo h w y =
      let a = clear Hand hand_one Hs h0 f b.temporaries fo zero b.temporaries l (in_order g zero b.iterators (in_order e zero b.arrays k)) (omega arith) h in
      let c = clear Iterator iterator_one Ws w0 g b.iterators go zero b.iterators a.next (in_order e zero b.arrays k) (omega arith) (λ x. subst Ws (sym (a.others (Iterator x) (λ z lz q. cc))) (w x)) in
      let d = clear Array array_one Ys y0 e b.arrays eo zero b.arrays c.next k (omega arith) (λ x. subst Ys (sym (c.others (Array x) (λ z lz q. cc) ∙ a.others (Array x) (λ z lz q. cc))) (y x)) in
      record {
        next = d.next;
        steps = a.steps + (c.steps + d.steps);
        few = omega (arith, a.few, c.few, d.few);
        goes = then_goes a.goes (then_goes c.goes d.goes);
        hands = λ x lt. d.others (Hand x) (λ z lz q. cc) ∙ (c.others (Hand x) (λ z lz q. cc) ∙ a.empties x (omega arith) (omega (arith, lt)));
        iterators = λ x lt. d.others (Iterator x) (λ z lz q. cc) ∙ c.empties x (omega arith) (omega (arith, lt));
        arrays = λ x lt. d.empties x (omega arith) (omega (arith, lt));
        numbers = λ x. d.others (Number x) (λ z lz q. cc) ∙ (c.others (Number x) (λ z lz q. cc) ∙ a.others (Number x) (λ z lz q. cc));
        params = λ x. d.others (Param x) (λ z lz q. cc) ∙ (c.others (Param x) (λ z lz q. cc) ∙ a.others (Param x) (λ z lz q. cc));
        answer = d.others Answer (λ z lz q. cc) ∙ (c.others Answer (λ z lz q. cc) ∙ a.others Answer (λ z lz q. cc));
      }

-- how many steps an exit takes at most, and a beginning
abbrev pub exit_work : Bases → ℕ
exit_work b = 8 * (b.temporaries + (b.iterators + b.arrays)) + (2 * b.parameters + 3)

abbrev pub begin_work : Bases → ℕ
begin_work b = 1 + 8 * (b.temporaries + (b.iterators + b.arrays))

module _ (p : Program) (deepest : Observer) (ks : List Kind) (F : List Frame) (b : Bases) where
  abbrev y : Layout
  y = layout_of p b

  hands_begun : (t m : ℕ) (k : Instructions) → temporaries_emptied y t m k ≡ in_order (λ x. emptied (handle_local b x)) t m k
  hands_begun t zero k = refl
  hands_begun t (suc m) k = ap (emptied (handle_local b t)) (hands_begun (suc t) m k)

  walks_begun : (t m : ℕ) (k : Instructions) → iterators_emptied y t m k ≡ in_order (λ x. emptied (iterator_local b x)) t m k
  walks_begun t zero k = refl
  walks_begun t (suc m) k = ap (emptied (iterator_local b t)) (walks_begun (suc t) m k)

  yards_begun : (t m : ℕ) (k : Instructions) → arrays_emptied y t m k ≡ in_order (λ x. emptied (array_local b x)) t m k
  yards_begun t zero k = refl
  yards_begun t (suc m) k = ap (emptied (array_local b t)) (yards_begun (suc t) m k)

  hands_swept : (t m : ℕ) (k : Instructions) → temporaries_swept y t m k ≡ in_order (λ x. let_go Drop (handle_local b x)) t m k
  hands_swept t zero k = refl
  hands_swept t (suc m) k = ap (let_go Drop (handle_local b t)) (hands_swept (suc t) m k)

  walks_swept : (t m : ℕ) (k : Instructions) → iterators_swept y t m k ≡ in_order (λ x. let_go IterFree (iterator_local b x)) t m k
  walks_swept t zero k = refl
  walks_swept t (suc m) k = ap (let_go IterFree (iterator_local b t)) (walks_swept (suc t) m k)

  yards_swept : (t m : ℕ) (k : Instructions) → arrays_swept y t m k ≡ in_order (λ x. let_go FreeArray (array_local b x)) t m k
  yards_swept t zero k = refl
  yards_swept t (suc m) k = ap (let_go FreeArray (array_local b t)) (yards_swept (suc t) m k)

  cleared_by : {K : List Label} {G : Store} → (most : ℕ) (l : Locals) (c c1 k : Instructions) → c ≡ c1 → Cleared (machine p deepest ks F) ks F b K G most l c1 k → Cleared (machine p deepest ks F) ks F b K G most l c k
  cleared_by {K = K} {G = G} most l c c1 k e a = record {
    next = a.next;
    steps = a.steps;
    few = a.few;
    goes = goes_from (ap (λ z. at ks [] K (laid b l) F z G) e) a.goes;
    hands = a.hands;
    iterators = a.iterators;
    arrays = a.arrays;
    numbers = a.numbers;
    params = a.params;
    answer = a.answer;
  }

  -- whatever a function holds in temporaries, iterators and arrays of calls is let go
  pub sweep_ok : (K : List Label) (G : Store) (l : Locals) (k : Instructions) → Loose p deepest ks F l → Cleared (machine p deepest ks F) ks F b K G (8 * (b.temporaries + (b.iterators + b.arrays))) l (swept y k) k
  sweep_ok K G l k lo =
      let f : ℕ → Instructions → Instructions = λ x. let_go Drop (handle_local b x) in
      let g : ℕ → Instructions → Instructions = λ x. let_go IterFree (iterator_local b x) in
      let e : ℕ → Instructions → Instructions = λ x. let_go FreeArray (array_local b x) in
      cleared_by (8 * (b.temporaries + (b.iterators + b.arrays))) l (swept y k) (in_order f zero b.temporaries (in_order g zero b.iterators (in_order e zero b.arrays k))) k
      (hands_swept zero b.temporaries _ ∙ ap (in_order f zero b.temporaries) (walks_swept zero b.iterators _ ∙ ap (in_order g zero b.iterators) (yards_swept zero b.arrays k)))
      (all_cleared b K G f g e l k IsHand IsWalk IsYard (inl refl) (inl refl) (inl refl)
      (λ x l1 k1 lt q. let_go_empties b K G Drop (Hand x) l1 k1 (let_go_hand b (Hand x) K l1 k1 G lt q))
      (λ x l1 k1 lt q. let_go_empties b K G IterFree (Iterator x) l1 k1 (let_go_walk b (Iterator x) K l1 k1 G lt q))
      (λ x l1 k1 lt q. let_go_empties b K G FreeArray (Array x) l1 k1 (let_go_yard b (Array x) K l1 k1 G lt q))
      lo.hands lo.walks lo.yards)

  -- iterators are let go, where temporaries and arrays hold nothing
  iterators_ok : (K : List Label) (G : Store) (l : Locals) (k : Instructions) → Loose p deepest ks F l → ((x : ℕ) → x < b.temporaries → l.hand x ≡ empty) → ((x : ℕ) → x < b.arrays → l.array x ≡ empty) →
      Cleared (machine p deepest ks F) ks F b K G (8 * b.iterators) l (iterators_swept y zero b.iterators k) k
  iterators_ok K G l k lo hands arrays =
      let g : ℕ → Instructions → Instructions = λ x. let_go IterFree (iterator_local b x) in
      let c = clear b K G Iterator iterator_one IsWalk (inl refl) g b.iterators (λ x l1 k1 lt q. let_go_empties b K G IterFree (Iterator x) l1 k1 (let_go_walk b (Iterator x) K l1 k1 G lt q)) zero b.iterators l k (omega arith) lo.walks in
      cleared_by (8 * b.iterators) l (iterators_swept y zero b.iterators k) (in_order g zero b.iterators k) k (walks_swept zero b.iterators k)
      (record {
        next = c.next;
        steps = c.steps;
        few = c.few;
        goes = c.goes;
        hands = λ x lt. c.others (Hand x) (λ z lz q. cc) ∙ hands x lt;
        iterators = λ x lt. c.empties x (omega arith) (omega (arith, lt));
        arrays = λ x lt. c.others (Array x) (λ z lz q. cc) ∙ arrays x lt;
        numbers = λ x. c.others (Number x) (λ z lz q. cc);
        params = λ x. c.others (Param x) (λ z lz q. cc);
        answer = c.others Answer (λ z lz q. cc);
      })

  -- the same where no function is called, and temporaries and arrays hold nothing
  pub left_sweep_ok : (cs : List (List Kind)) (K : List Label) (G : Store) (l : Locals) (k : Instructions) → Loose p deepest ks F l → (cs ≡ [] → ((x : ℕ) → l.hand x ≡ empty) × ((x : ℕ) → l.array x ≡ empty)) →
      Cleared (machine p deepest ks F) ks F b K G (8 * (b.temporaries + (b.iterators + b.arrays))) l (left_swept y (has_functions cs) k) k
  left_sweep_ok (c ∷ cs) K G l k lo none = sweep_ok K G l k lo
  left_sweep_ok [] K G l k lo none =
      let held = none refl in
      let c = iterators_ok K G l k lo (λ x lt. held.0 x) (λ x lt. held.1 x) in
      record {
        next = c.next;
        steps = c.steps;
        few = let q = c.few in omega (arith, q);
        goes = c.goes;
        hands = c.hands;
        iterators = c.iterators;
        arrays = c.arrays;
        numbers = c.numbers;
        params = c.params;
        answer = c.answer;
      }

  -- temporaries and arrays of calls are let go
  pub record OperandsSwept (K : List Label) (G : Store) (l : Locals) (k : Instructions) : Type 0 where
    pub next : Locals
    pub steps : ℕ
    pub few : steps ≤ 8 * (b.temporaries + b.arrays)
    pub goes : Goes (machine p deepest ks F) steps (at ks [] K (laid b l) F (operands_swept y k) G) (at ks [] K (laid b next) F k G)
    pub hands : (x : ℕ) → x < b.temporaries → next.hand x ≡ empty
    pub arrays : (x : ℕ) → x < b.arrays → next.array x ≡ empty
    pub loose : Loose p deepest ks F next
    pub answer : next.answer ≡ l.answer

  pub operands_sweep_ok : (K : List Label) (G : Store) (l : Locals) (k : Instructions) → Loose p deepest ks F l → OperandsSwept K G l k
  operands_sweep_ok K G l k lo =
      let f : ℕ → Instructions → Instructions = λ x. let_go Drop (handle_local b x) in
      let e : ℕ → Instructions → Instructions = λ x. let_go FreeArray (array_local b x) in
      let a = clear b K G Hand hand_one IsHand (inl refl) f b.temporaries (λ x l1 k1 lt q. let_go_empties b K G Drop (Hand x) l1 k1 (let_go_hand b (Hand x) K l1 k1 G lt q)) zero b.temporaries l (in_order e zero b.arrays k) (omega arith) lo.hands in
      let d = clear b K G Array array_one IsYard (inl refl) e b.arrays (λ x l1 k1 lt q. let_go_empties b K G FreeArray (Array x) l1 k1 (let_go_yard b (Array x) K l1 k1 G lt q)) zero b.arrays a.next k (omega arith) (λ x. subst IsYard (sym (a.others (Array x) (λ z lz q. cc))) (lo.yards x)) in
      record {
        next = d.next;
        steps = a.steps + d.steps;
        few = omega (arith, a.few, d.few);
        goes = goes_from (ap (λ z. at ks [] K (laid b l) F z G) (hands_swept zero b.temporaries _ ∙ ap (in_order f zero b.temporaries) (yards_swept zero b.arrays k))) (then_goes a.goes d.goes);
        hands = λ x lt. d.others (Hand x) (λ z lz q. cc) ∙ a.empties x (omega arith) (omega (arith, lt));
        arrays = λ x lt. d.empties x (omega arith) (omega (arith, lt));
        loose = record {
          params = λ i j q. subst (ParamLoose p deepest ks F j) (sym (d.others (Param i) (λ z lz r. cc) ∙ a.others (Param i) (λ z lz r. cc))) (lo.params i j q);
          hands = λ x. subst IsHand (sym (d.others (Hand x) (λ z lz r. cc))) (a.fine x);
          numbers = λ x. ap is_owned (d.others (Number x) (λ z lz r. cc) ∙ a.others (Number x) (λ z lz r. cc)) ∙ lo.numbers x;
          walks = λ x. subst IsWalk (sym (d.others (Iterator x) (λ z lz r. cc) ∙ a.others (Iterator x) (λ z lz r. cc))) (lo.walks x);
          yards = λ x. d.fine x;
        };
        answer = d.others Answer (λ z lz q. cc) ∙ a.others Answer (λ z lz q. cc);
      }

  -- at a function's beginning they are emptied, and its answer too
  pub begin_ok : (K : List Label) (G : Store) (l : Locals) (k : Instructions) → is_owned l.answer ≡ false → ((x : ℕ) → is_owned (l.hand x) ≡ false) → ((x : ℕ) → is_owned (l.iterator x) ≡ false) → ((x : ℕ) → is_owned (l.array x) ≡ false) →
      Cleared (machine p deepest ks F) ks F b K G (8 * (b.temporaries + (b.iterators + b.arrays))) (with_at l Answer unanswered) (temporaries_emptied y zero b.temporaries (iterators_emptied y zero b.iterators (arrays_emptied y zero b.arrays k))) k
  begin_ok K G l k o oh ow oy =
      let f : ℕ → Instructions → Instructions = λ x. emptied (handle_local b x) in
      let g : ℕ → Instructions → Instructions = λ x. emptied (iterator_local b x) in
      let e : ℕ → Instructions → Instructions = λ x. emptied (array_local b x) in
      cleared_by (8 * (b.temporaries + (b.iterators + b.arrays))) (with_at l Answer unanswered) _ (in_order f zero b.temporaries (in_order g zero b.iterators (in_order e zero b.arrays k))) k
      (hands_begun zero b.temporaries _ ∙ ap (in_order f zero b.temporaries) (walks_begun zero b.iterators _ ∙ ap (in_order g zero b.iterators) (yards_begun zero b.arrays k)))
      (all_cleared b K G f g e (with_at l Answer unanswered) k (λ c. is_owned c ≡ false) (λ c. is_owned c ≡ false) (λ c. is_owned c ≡ false) refl refl refl
      (λ x l1 k1 lt q. record { steps = 1; few = omega arith; goes = emptied_ok b l1 (Hand x) lt q })
      (λ x l1 k1 lt q. record { steps = 1; few = omega arith; goes = emptied_ok b l1 (Iterator x) lt q })
      (λ x l1 k1 lt q. record { steps = 1; few = omega arith; goes = emptied_ok b l1 (Array x) lt q })
      oh ow oy)

  -- the values of parameters from x on are dropped, and what else they have is not owned
  record Dropped (x m : ℕ) (K : List Label) (G : Store) (l : Locals) (c k : Instructions) : Type 0 where
    next : Locals
    steps : ℕ
    few : steps ≤ 2 * m
    goes : Goes (machine p deepest ks F) steps (at ks [] K (laid b l) F c G) (at ks [] K (laid b next) F k G)
    unowned : (i : ℕ) → x ≤ i → i < x + m → is_owned (next.param i) ≡ false
    others : (q : Place) → ((i : ℕ) → x ≤ i → q ≢ Param i) → has next q ≡ has l q

  kept_param : (x m : ℕ) (K : List Label) (G : Store) (l : Locals) (c k : Instructions) → is_owned (l.param x) ≡ false → Dropped (suc x) m K G l c k → Dropped x (suc m) K G l c k
  kept_param x m K G l c k o r = record {
    next = r.next;
    steps = r.steps;
    few = let q = r.few in omega (arith, q);
    goes = r.goes;
    unowned = λ i lx ly. elim (cases_eq i x) [
      | inl e ↦ ap (λ z. is_owned (r.next.param z)) e ∙ (ap is_owned (r.others (Param x) (λ j lj q. omega (arith, lj, ap index q))) ∙ o)
      | inr ne ↦ r.unowned i (omega (arith, lx, ne)) (omega (arith, ly))
    ];
    others = λ q ne. r.others q (λ i li. ne i (omega (arith, li)));
  }

  drop_ok_from : (js : List Kind) (x : ℕ) (K : List Label) (G : Store) (l : Locals) (k : Instructions) → x + length js ≤ b.parameters → ((i : ℕ) (j : Kind) (z : ℕ) → has_kind js i j ≡ true → z ≡ x + i → ParamLoose p deepest ks F j (l.param z)) →
      Dropped x (length js) K G l (parameters_dropped y x js k) k
  drop_ok_from [] x K G l k le lo = record { next = l; steps = 0; few = omega arith; goes = stays; unowned = λ i lx ly. absurd (omega (arith, lx, ly)); others = λ q ne. refl }
  drop_ok_from (Unboxed ∷ js) x K G l k le lo = kept_param x (length js) K G l _ k (lo zero Unboxed x refl (omega arith)) (drop_ok_from js (suc x) K G l k (omega (arith, le)) (λ i j z e q. lo (suc i) j z e (omega (arith, q))))
  drop_ok_from (ArrayKind ∷ js) x K G l k le lo = kept_param x (length js) K G l _ k (lo zero ArrayKind x refl (omega arith)) (drop_ok_from js (suc x) K G l k (omega (arith, le)) (λ i j z e q. lo (suc i) j z e (omega (arith, q))))
  drop_ok_from (Boxed ∷ js) x K G l k le lo =
      let v = lo zero Boxed x refl (omega arith) in
      let l1 = with_at l (Param x) Gone in
      let r = drop_ok_from js (suc x) K G l1 k (omega (arith, le)) (λ i j z e q. still i j z e q) in
      record {
        next = r.next;
        steps = 2 + r.steps;
        few = let q = r.few in omega (arith, q);
        goes = then_goes (then_goes (get_moved b l (Param x) (Held v.0) (omega (arith, le)) v.1) (drop_ok v.0 [])) r.goes;
        unowned = λ i lx ly. elim (cases_eq i x) [
          | inl e ↦ ap (λ z. is_owned (r.next.param z)) e ∙ ap is_owned (r.others (Param x) (λ j lj q. omega (arith, lj, ap index q)) ∙ has_with l (Param x) Gone)
          | inr ne ↦ r.unowned i (omega (arith, lx, ne)) (omega (arith, ly))
        ];
        others = λ q ne. r.others q (λ i li. ne i (omega (arith, li))) ∙ other_has l (Param x) q Gone (ne x (omega arith));
      }
    where
      still : (i : ℕ) (j : Kind) (z : ℕ) → has_kind js i j ≡ true → z ≡ suc x + i → ParamLoose p deepest ks F j ((with_at l (Param x) Gone).param z)
      still i j z e q = subst (ParamLoose p deepest ks F j) (sym (upd_other l.param x z Gone (λ r. omega (arith, q, r)))) (lo (suc i) j z e (omega (arith, q)))

  -- locals that own nothing
  pub unowned_laid : (l : Locals) → ((i : ℕ) → i < b.parameters → is_owned (l.param i) ≡ false) → is_owned l.answer ≡ false → ((x : ℕ) → x < b.temporaries → is_owned (l.hand x) ≡ false) → ((x : ℕ) → is_owned (l.number x) ≡ false) →
      ((x : ℕ) → x < b.iterators → is_owned (l.iterator x) ≡ false) → ((x : ℕ) → x < b.arrays → is_owned (l.array x) ≡ false) → none_owned (laid b l) ≡ true
  unowned_laid l op oa oh on ow oy =
      unowned_cells l.param b.parameters (l.answer ∷ temporaries_on b l) op
      (ap₂ (λ c d. not c && d) oa
      (unowned_pairs l.hand l.number b.temporaries (cells l.iterator b.iterators ++ (cells l.array b.arrays ++ [])) oh (λ x lt. on x)
      (unowned_cells l.iterator b.iterators (cells l.array b.arrays ++ []) ow (unowned_cells l.array b.arrays [] oy refl))))

module _ (p : Program) (deepest : Observer) (ks : List Kind) (f : Frame) (F : List Frame) (b : Bases) where
  -- a function ends with what its answer has, and the caller goes on
  pub record Exits (G : Store) (l : Locals) : Type 0 where
    pub steps : ℕ
    pub few : steps ≤ 8 * b.iterators + (2 * b.parameters + 2)
    pub goes : Goes (machine p deepest ks (f ∷ F)) steps (at ks [] [] (laid b l) (f ∷ F) (routine_exit (layout_of p b) ks) G) (at f.kinds (l.answer ∷ f.under) f.labels f.locals F f.rest G)

  pub exit_ok : (G : Store) (l : Locals) → length ks ≡ b.parameters → Loose p deepest ks (f ∷ F) l → ((x : ℕ) → x < b.temporaries → l.hand x ≡ empty) → ((x : ℕ) → x < b.arrays → l.array x ≡ empty) → Exits G l
  exit_ok G l size lo hands arrays =
      let s = iterators_ok p deepest ks (f ∷ F) b [] G l (parameters_dropped (layout_of p b) zero ks (emit (LocalGet (answer_local b)) Done)) lo hands arrays in
      let d = drop_ok_from p deepest ks (f ∷ F) b ks zero [] G s.next (emit (LocalGet (answer_local b)) Done) (omega (arith, size)) (λ i j z e q. loose_still (s.next) s.params i j z e (omega (arith, q))) in
      let an : d.next.answer ≡ l.answer = d.others Answer (λ i li q. cc) ∙ s.answer in
      let l3 = with_at d.next Answer (left_by l.answer) in
      let clean : none_owned (laid b l3) ≡ true =
      unowned_laid p deepest ks (f ∷ F) b l3 (λ i lt. d.unowned i (omega arith) (omega (arith, lt, size))) (left_unowned l.answer)
      (λ x lt. ap is_owned (d.others (Hand x) (λ i li q. cc) ∙ s.hands x lt)) (λ x. ap is_owned (d.others (Number x) (λ i li q. cc) ∙ s.numbers x) ∙ lo.numbers x)
      (λ x lt. ap is_owned (d.others (Iterator x) (λ i li q. cc) ∙ s.iterators x lt)) (λ x lt. ap is_owned (d.others (Array x) (λ i li q. cc) ∙ s.arrays x lt)) in
      record {
        steps = s.steps + (d.steps + 2);
        few = let q = s.few in let r = d.few in omega (arith, q, r, size);
        goes = then_goes s.goes (then_goes d.goes (then_goes (get_moved b d.next Answer l.answer tt an) (by_steps 1 (ap (λ t. guarded (true && t) (leave_function (machine p deepest ks (f ∷ F)) l.answer (f ∷ F) G)) clean))));
      }
    where
      loose_still : (l1 : Locals) → ((i : ℕ) → l1.param i ≡ l.param i) → (i : ℕ) (j : Kind) (z : ℕ) → has_kind ks i j ≡ true → z ≡ i → ParamLoose p deepest ks (f ∷ F) j (l1.param z)
      loose_still l1 same i j z e q = subst (ParamLoose p deepest ks (f ∷ F) j) (sym (ap l1.param q ∙ same i)) (lo.params i j e)
