-- Names are read, and what was kept is named.
use Rattle.std.proofs.Common.{◌≡◌, ◌≢◌, inr, ℕ, zero, suc, ◌<◌, ◌≤◌, Bool, true, false, List, [], ◌∷◌, length, refl, sym, ap, ◌∙◌, subst, arith}
use Rattle.std.specs.Prelude.{get_or, if◌then◌else◌}
use Rattle.std.proofs.lemmas.Bool.{ltb-true}
use Rattle.awk_values.specs.declared.value.Value.{Value}
use Rattle.sem_primitives.specs.declared.sorts.Answer.TheVariants as answer
use Rattle.sem_primitives.specs.declared.sorts.Sort.TheVariants as sort
use Rattle.wasm_types.specs.Syntax.{Instructions}
use Rattle.wasm_store.specs.declared.word.Word.TheVariants.{I64}
use Rattle.mid_program.specs.Mid.{Kind, Boxed, Unboxed, ArrayKind, Program, Global, Parameter, Form, PrimitiveAnswer, NumberOrText, Get, Bound, form_at}
use Rattle.mid_program.specs.MidMeaning.{Holds, Env, evaluated, all_evaluated, held}
use Rattle.sem_scripts.specs.Names.{Numbered}
use Rattle.sem_scripts.specs.ScriptState.{State, global_value, local_value}
use Rattle.mid_program.specs.Sorted.{Held as Standing, There, Moved, Misused, used, same_number, sorted, all_sorted, held_after, is_well_used, has_kind, same_kind, kinds_of}
use Rattle.lower_model.specs.Cells.{Bits, Cell, Held, is_owned}
use Rattle.lower_model.specs.Emission.{emitted, all_emitted}
use Rattle.lower_model.specs.Machine.{Conf, Label, Frame, at, loops_walked}
use Rattle.lower_model.specs.Places.{Bases}
use Rattle.lower_model.specs.Small.{copied_from}
use Rattle.lower_model.proofs.Observer.{Observer}
use Rattle.lower_model.proofs.Runs.{Goes, then_goes, stays, there}
use Rattle.lower_model.proofs.Regions.{upd_same, upd_other}
use Rattle.lower_model.proofs.Locals.{Locals, Param, Hand, Number as NumberAt, local_of, with_at, laid}
use Rattle.lower_model.proofs.Globals.{Hand as NameHand}
use Rattle.lower_model.proofs.Steps.{empty}
use Rattle.lower_model.proofs.State.{kind_here, name_hand, arrays_before, BareIs, IsBeside, IsNone, IsNumber}
use Rattle.lower_model.proofs.Relation.{HoldsAt, WordIs, LeftBy, hand_left, KeptAs, Kept, kept_same, Below, Outside, same_self, Fit, fit_hand, fit_number, fit_more, Away, holds_same}
use Rattle.lower_model.proofs.Answers.{machine, beside_state, put_value}
use Rattle.lower_model.proofs.Copies.{copied_local, copied_global, if_any_local, if_none_local}
use Rattle.lower_model.proofs.Simulation.{Done, ExprOk, Ready, plain_stands}
use Rattle.lower_model.proofs.Expressions.{put_done}
use Rattle.lower_model.proofs.Keeping.{moved_from_ok, LeftHand, copied_ok}

pub kind_below : (kinds : List Kind) (i : ℕ) (k : Kind) → has_kind kinds i k ≡ true → i < length kinds
kind_below [] i k e = cc
kind_below (j ∷ kinds) zero k e = omega arith
kind_below (j ∷ kinds) (suc i) k e = let r = kind_below kinds i k e in omega (arith, r)

kinds_same : (j k : Kind) → same_kind j k ≡ true → j ≡ k
kinds_same Boxed Boxed e = refl
kinds_same Unboxed Unboxed e = refl
kinds_same ArrayKind ArrayKind e = refl
kinds_same j k e = cc

pub kind_found : (kinds : List Kind) (i : ℕ) (k : Kind) → has_kind kinds i k ≡ true → kind_here kinds i ≡ k
kind_found [] i k e = cc
kind_found (j ∷ kinds) zero k e = kinds_same j k e
kind_found (j ∷ kinds) (suc i) k e = kind_found kinds i k e

-- What is kept, by its number.

pub kept_at : (fs : List Form) (ts : List ℕ) (st : ℕ → Standing) (l : Locals) (env : Env fs) (t i : ℕ) → Below t ts → Kept fs ts st l env → i < length fs → KeptAs (st i) (form_at fs i) (get_or ts i zero) l (held fs env i) × (get_or ts i zero < t)
kept_at [] ts st l env t i bl k lt = absurd (omega (arith, lt))
kept_at (f ∷ fs) [] st l env t i bl k lt = absurd k
kept_at (f ∷ fs) (s ∷ ts) st l env t zero bl k lt = (k.0, bl.0)
kept_at (f ∷ fs) (s ∷ ts) st l env t (suc i) bl k lt =
    let r = kept_at fs ts (λ j. st (suc j)) l env.1 s i bl.1 k.1 (omega (arith, lt)) in
    (r.0, omega (arith, r.1, bl.0))

used_left : (m : Bool) (h : Standing) (f : Form) (s : ℕ) (l : Locals) (x : Holds f) → m ≡ true → LeftBy f (l.hand s) → KeptAs (used m h) f s l x
used_left true There f s l x e q = q
used_left true Moved f s l x e q = q
used_left true Misused f s l x e q = q
used_left false h f s l x e q = cc

used_copied : (h : Standing) (f : Form) (s : ℕ) (l : Locals) (x : Holds f) → KeptAs h f s l x → KeptAs (used false h) f s l x
used_copied There f s l x q = q
used_copied Moved f s l x q = q
used_copied Misused f s l x q = q

kept_one : (h : Standing) (f : Form) (s : ℕ) (l l1 : Locals) (x : Holds f) → l1.hand s ≡ l.hand s → l1.number s ≡ l.number s → KeptAs h f s l x → KeptAs h f s l1 x
kept_one There f s l l1 x e e1 q = holds_same f s l l1 x e e1 q
kept_one Moved f s l l1 x e e1 q = subst (LeftBy f) (sym e) q
kept_one Misused f s l l1 x e e1 q = subst (LeftBy f) (sym e) q

-- one of what is kept was moved away
pub kept_moved : (fs : List Form) (ts : List ℕ) (st : ℕ → Standing) (l l1 : Locals) (env : Env fs) (t i : ℕ) → Below t ts → i < length fs → ((x : ℕ) → x < t → x ≢ get_or ts i zero → l1.hand x ≡ l.hand x) → ((x : ℕ) → x < t → l1.number x ≡ l.number x) → LeftBy (form_at fs i) (l1.hand (get_or ts i zero)) →
    Kept fs ts st l env → Kept fs ts (λ j. held_after j (Bound true i) (st j)) l1 env
kept_moved [] ts st l l1 env t i bl lt h m lb k = absurd (omega (arith, lt))
kept_moved (f ∷ fs) [] st l l1 env t i bl lt h m lb k = absurd k
kept_moved (f ∷ fs) (s ∷ ts) st l l1 env t zero bl lt h m lb k =
    (used_left true (st zero) f s l1 env.0 refl lb, kept_same fs ts (λ j. st (suc j)) l l1 env.1 s bl.1 (λ x lx. h x (omega (arith, lx, bl.0)) (λ e. omega (arith, e, lx))) (λ x lx. m x (omega (arith, lx, bl.0))) k.1)
kept_moved (f ∷ fs) (s ∷ ts) st l l1 env t (suc i) bl lt h m lb k =
    let r = (kept_at fs ts (λ j. st (suc j)) l env.1 s i bl.1 k.1 (omega (arith, lt))).1 in
    (kept_one (st zero) f s l l1 env.0 (h s bl.0 (λ e. omega (arith, e, r))) (m s bl.0) k.0, kept_moved fs ts (λ j. st (suc j)) l l1 env.1 s i bl.1 (omega (arith, lt)) (λ x lx ne. h x (omega (arith, lx, bl.0)) ne) (λ x lx. m x (omega (arith, lx, bl.0))) lb k.1)

-- one of what is kept was copied
pub kept_copied : (fs : List Form) (ts : List ℕ) (st : ℕ → Standing) (l l1 : Locals) (env : Env fs) (t i : ℕ) → Below t ts → i < length fs → ((x : ℕ) → x < t → l1.hand x ≡ l.hand x) → ((x : ℕ) → x < t → l1.number x ≡ l.number x) → Kept fs ts st l env → Kept fs ts (λ j. held_after j (Bound false i) (st j)) l1 env
kept_copied [] ts st l l1 env t i bl lt h m k = absurd (omega (arith, lt))
kept_copied (f ∷ fs) [] st l l1 env t i bl lt h m k = absurd k
kept_copied (f ∷ fs) (s ∷ ts) st l l1 env t zero bl lt h m k =
    (used_copied (st zero) f s l1 env.0 (kept_one (st zero) f s l l1 env.0 (h s bl.0) (m s bl.0) k.0), kept_same fs ts (λ j. st (suc j)) l l1 env.1 s bl.1 (λ x lx. h x (omega (arith, lx, bl.0))) (λ x lx. m x (omega (arith, lx, bl.0))) k.1)
kept_copied (f ∷ fs) (s ∷ ts) st l l1 env t (suc i) bl lt h m k =
    (kept_one (st zero) f s l l1 env.0 (h s bl.0) (m s bl.0) k.0, kept_copied fs ts (λ j. st (suc j)) l l1 env.1 s i bl.1 (omega (arith, lt)) (λ x lx. h x (omega (arith, lx, bl.0))) (λ x lx. m x (omega (arith, lx, bl.0))) k.1)

-- what is used, and not misused, is there
used_there : (m : Bool) (h : Standing) → is_well_used (used m h) ≡ true → h ≡ There
used_there m There e = refl
used_there true Moved e = cc
used_there false Moved e = cc
used_there true Misused e = cc
used_there false Misused e = cc

same_true : (i : ℕ) → same_number i i ≡ true
same_true zero = refl
same_true (suc i) = same_true i

pub bound_there : (m : Bool) (i : ℕ) (h : Standing) → is_well_used (held_after i (Bound m i) h) ≡ true → h ≡ There
bound_there m i h e = used_there m h (sym (ap (λ t. is_well_used (if t then used m h else h)) (same_true i)) ∙ e)

module _ (p : Program) (deepest : Observer) (ks : List Kind) (F : List Frame) (b : Bases) (M n : ℕ) where
  outside_one : (ts : List ℕ) (i x : ℕ) → Outside x ts → i < length ts → x ≢ get_or ts i zero
  outside_one [] i x o lt = absurd (omega (arith, lt))
  outside_one (s ∷ ts) zero x o lt = o.0
  outside_one (s ∷ ts) (suc i) x o lt = outside_one ts i x o.1 (omega (arith, lt))

  kept_lengths : (fs : List Form) (ts : List ℕ) (st : ℕ → Standing) (l : Locals) (env : Env fs) → Kept fs ts st l env → length ts ≡ length fs
  kept_lengths [] [] st l env k = refl
  kept_lengths [] (s ∷ ts) st l env k = absurd k
  kept_lengths (f ∷ fs) [] st l env k = absurd k
  kept_lengths (f ∷ fs) (s ∷ ts) st l env k = ap suc (kept_lengths fs ts (λ j. st (suc j)) l env.1 k.1)

  moved_left : (f : Form) (c d : Cell) → LeftBy f c → d ≡ LeftHand f c → LeftBy f d
  moved_left (PrimitiveAnswer (answer.Of sort.Value)) c d e q = tt
  moved_left NumberOrText c d e q = tt
  moved_left f c d e q = q ∙ e

  -- where nobody asks for the answer nothing is done
  left_alone : (m : Bool) (i : ℕ) (fs : List Form) (env : Env fs) (ts : List ℕ) (st : ℕ → Standing) (t u w : ℕ) (k : Instructions) (K : List Label) (l : Locals) (σ : State) → Ready p deepest ks F b M n fs env ts st t u w (loops_walked K) l σ →
      Kept fs ts (λ j. held_after j (Bound m i) (st j)) l env → Done p deepest ks F b M n true (Bound m i) fs env ts st t u w k K l σ (held fs env i) σ (at ks [] K (laid b l) F k (beside_state p deepest ks F σ))
  left_alone m i fs env ts st t u w k K l σ rd kept = record {
    next = l;
    comes = refl;
    fit = fit_more p deepest ks F t u w l σ rd.fit;
    same = same_self ts t w l;
    own = λ j q. refl;
    kept = kept;
    stands = rd.fit.free t (omega arith);
    meant = plain_stands p deepest ks F b M n (form_at fs i) (held fs env i) (Numbered zero) σ (rd.plain i);
  }

  -- the last use moves it
  pub moves_expr : (i : ℕ) → ExprOk p deepest ks F b M n (Bound true i)
  unfolding emitted all_emitted evaluated all_evaluated sorted all_sorted
  moves_expr i true fs env ts st t u w d k K l σ so us rm ar rd =
      let lt = ltb-true i (length fs) so in
      let s = get_or ts i zero in
      let ka = kept_at fs ts st l env t i rd.below rd.kept lt in
      let f = form_at fs i in
      let x = held fs env i in
      let hd : HoldsAt f s l x = subst (λ m. KeptAs m f s l x) (bound_there true i (st i) (us i lt)) ka.0 in
      there (machine p deepest ks F) M 20 0 _ _ x σ (Done p deepest ks F b M n true (Bound true i) fs env ts st t u w k K l σ) (Away p deepest ks F b d K) stays (omega arith)
      (left_alone true i fs env ts st t u w k K l σ rd (kept_moved fs ts st l l env t i rd.below lt (λ y ly ne. refl) (λ y ly. refl) (hand_left f s l x hd) rd.kept))
  moves_expr i false fs env ts st t u w d k K l σ so us rm ar rd =
      let lt = ltb-true i (length fs) so in
      let s = get_or ts i zero in
      let ka = kept_at fs ts st l env t i rd.below rd.kept lt in
      let f = form_at fs i in
      let x = held fs env i in
      let hd : HoldsAt f s l x = subst (λ m. KeptAs m f s l x) (bound_there true i (st i) (us i lt)) ka.0 in
      let fr = rd.fit.free t (omega arith) in
      let m = moved_from_ok p deepest ks F b M n f x s t u w t k K l σ (omega (arith, rm, ka.1)) (omega (arith, rm)) (λ e. omega (arith, e, ka.1)) rd.fit hd fr in
      let ln = kept_lengths fs ts st l env rd.kept in
      there (machine p deepest ks F) M 20 m.steps _ _ x σ (Done p deepest ks F b M n false (Bound true i) fs env ts st t u w k K l σ) (Away p deepest ks F b d K) m.goes (omega (arith, m.few))
      (record {
        next = m.next;
        comes = refl;
        fit = m.fit (suc t) u w (omega (arith, ka.1)) (omega arith) (fit_more p deepest ks F t u w l σ rd.fit);
        same = record {
          hands = λ y ly o. m.hands y (outside_one ts i y o (omega (arith, ln, lt))) (λ e. omega (arith, e, ly));
          numbers = λ y ly. m.numbers y (λ e. omega (arith, e, ly));
          iterators = m.iterators;
          arrays = λ y ly. m.arrays y;
        };
        own = λ j q. refl;
        kept = kept_moved fs ts st l m.next env t i rd.below lt (λ y ly ne. m.hands y ne (λ e. omega (arith, e, ly))) (λ y ly. m.numbers y (λ e. omega (arith, e, ly))) (moved_left f (l.hand s) (m.next.hand s) (hand_left f s l x hd) m.hand) rd.kept;
        stands = m.holds;
        meant = plain_stands p deepest ks F b M n f x (Numbered zero) σ (rd.plain i);
      })

  -- A copy of what is kept.

  pub record CopiedTo (s t : ℕ) (f : Form) (k : Instructions) (K : List Label) (l : Locals) (x : Holds f) (σ : State) (c : Conf) : Type 0 where
    pub next : Locals
    pub steps : ℕ
    pub few : steps ≤ 11
    pub goes : Goes (machine p deepest ks F) steps c (at ks [] K (laid b next) F k (beside_state p deepest ks F σ))
    pub holds : HoldsAt f t next x
    pub hands : (y : ℕ) → y ≢ t → next.hand y ≡ l.hand y
    pub numbers : (y : ℕ) → y ≢ t → next.number y ≡ l.number y
    pub iterators : (y : ℕ) → next.iterator y ≡ l.iterator y
    pub arrays : (y : ℕ) → next.array y ≡ l.array y
    pub fit : (q u w : ℕ) → t < q → Fit p deepest ks F q u w l σ → Fit p deepest ks F q u w next σ

  hands_apart : (s t : ℕ) → t ≢ s → local_of b (Hand s) ≢ local_of b (Hand t)
  hands_apart s t ne e = ne (omega (arith, e))

  none_copied : (x : Value) (s t u w q0 : ℕ) (k : Instructions) (K : List Label) (l : Locals) (σ : State) → s < b.temporaries → t < b.temporaries → Fit p deepest ks F q0 u w l σ → (hd : HoldsAt NumberOrText s l x) → l.hand t ≡ empty → l.hand s ≡ empty →
      CopiedTo s t NumberOrText k K l x σ (at ks [] K (laid b l) F (copied_from b NumberOrText s t k) (beside_state p deepest ks F σ))
  none_copied x s t u w q0 k K l σ ls lt ft hd e eh =
      let l0 = with_at l (NumberAt t) (l.number s) in
      record {
        next = l0;
        steps = 7;
        few = omega arith;
        goes = then_goes (copied_ok p deepest ks F b M n s t l σ ls lt (ft.numbers s) (ft.numbers t)) (if_none_local p deepest ks F b l0 (Hand s) t σ ls lt eh e);
        holds = (hd.0, upd_same l.number t (l.number s) ∙ hd.1, subst (λ c. BareIs x hd.0 c) (eh ∙ sym e) hd.2);
        hands = λ y nt. refl;
        numbers = λ y nt. upd_other l.number t y (l.number s) nt;
        iterators = λ y. refl;
        arrays = λ y. refl;
        fit = λ q u1 w1 lq g. fit_number p deepest ks F t q u1 w1 l σ (l.number s) (ft.numbers s) g;
      }

  bare_copied : (x : Value) (s t u w q0 : ℕ) (k : Instructions) (K : List Label) (l : Locals) (σ : State) → s < b.temporaries → t < b.temporaries → t ≢ s → Fit p deepest ks F q0 u w l σ → (m : ℕ) → l.number s ≡ Bits (I64 m) → l.hand t ≡ empty → BareIs x m (l.hand s) →
      CopiedTo s t NumberOrText k K l x σ (at ks [] K (laid b l) F (copied_from b NumberOrText s t k) (beside_state p deepest ks F σ))
  bare_copied x s t u w q0 k K l σ ls lt ne ft m en e (IsBeside eb eh) =
      let l0 = with_at l (NumberAt t) (l.number s) in
      record {
        next = with_at l0 (Hand t) (Held x);
        steps = 11;
        few = omega arith;
        goes = then_goes (copied_ok p deepest ks F b M n s t l σ ls lt (ft.numbers s) (ft.numbers t)) (if_any_local p deepest ks F b l0 (Hand s) t x σ ls lt (hands_apart s t ne) eh (ap is_owned e));
        holds = (m, upd_same l.number t (l.number s) ∙ en, IsBeside eb (upd_same l.hand t (Held x)));
        hands = λ y nt. upd_other l.hand t y (Held x) nt;
        numbers = λ y nt. upd_other l.number t y (l.number s) nt;
        iterators = λ y. refl;
        arrays = λ y. refl;
        fit = λ q u1 w1 lq g. fit_hand p deepest ks F t q u1 w1 l0 σ (Held x) (inr (x, refl)) lq (fit_number p deepest ks F t q u1 w1 l σ (l.number s) (ft.numbers s) g);
      }
  bare_copied x s t u w q0 k K l σ ls lt ne ft m en e (IsNone q eb eh) = none_copied x s t u w q0 k K l σ ls lt ft (m, en, IsNone q eb eh) e eh
  bare_copied x s t u w q0 k K l σ ls lt ne ft m en e (IsNumber z q eb eh) = none_copied x s t u w q0 k K l σ ls lt ft (m, en, IsNumber z q eb eh) e eh

  copied_from_ok : (f : Form) (x : Holds f) (s t u w q0 : ℕ) (k : Instructions) (K : List Label) (l : Locals) (σ : State) → s < b.temporaries → t < b.temporaries → t ≢ s → Fit p deepest ks F q0 u w l σ → HoldsAt f s l x → l.hand t ≡ empty →
      CopiedTo s t f k K l x σ (at ks [] K (laid b l) F (copied_from b f s t k) (beside_state p deepest ks F σ))
  copied_from_ok (PrimitiveAnswer (answer.Of sort.Value)) x s t u w q0 k K l σ ls lt ne ft hd e = record {
    next = with_at l (Hand t) (Held x);
    steps = 4;
    few = omega arith;
    goes = copied_local p deepest ks F b l (Hand s) t x σ ls lt (hands_apart s t ne) hd.0 (ap is_owned e);
    holds = (upd_same l.hand t (Held x), tt);
    hands = λ y nt. upd_other l.hand t y (Held x) nt;
    numbers = λ y nt. refl;
    iterators = λ y. refl;
    arrays = λ y. refl;
    fit = λ q u1 w1 lq g. fit_hand p deepest ks F t q u1 w1 l σ (Held x) (inr (x, refl)) lq g;
  }
  copied_from_ok NumberOrText x s t u w q0 k K l σ ls lt ne ft hd e = bare_copied x s t u w q0 k K l σ ls lt ne ft hd.0 hd.1 e hd.2
  copied_from_ok g x s t u w q0 k K l σ ls lt ne ft hd e = record {
    next = with_at l (NumberAt t) (l.number s);
    steps = 2;
    few = omega arith;
    goes = copied_ok p deepest ks F b M n s t l σ ls lt (ft.numbers s) (ft.numbers t);
    holds = (e, subst (λ c. WordIs g x c) (sym (upd_same l.number t (l.number s))) hd.1);
    hands = λ y nt. refl;
    numbers = λ y nt. upd_other l.number t y (l.number s) nt;
    iterators = λ y. refl;
    arrays = λ y. refl;
    fit = λ q u1 w1 lq g1. fit_number p deepest ks F t q u1 w1 l σ (l.number s) (ft.numbers s) g1;
  }

  pub copies_expr : (i : ℕ) → ExprOk p deepest ks F b M n (Bound false i)
  unfolding emitted all_emitted evaluated all_evaluated sorted all_sorted
  copies_expr i true fs env ts st t u w d k K l σ so us rm ar rd =
      there (machine p deepest ks F) M 20 0 _ _ (held fs env i) σ (Done p deepest ks F b M n true (Bound false i) fs env ts st t u w k K l σ) (Away p deepest ks F b d K) stays (omega arith)
      (left_alone false i fs env ts st t u w k K l σ rd (kept_copied fs ts st l l env t i rd.below (ltb-true i (length fs) so) (λ y ly. refl) (λ y ly. refl) rd.kept))
  copies_expr i false fs env ts st t u w d k K l σ so us rm ar rd =
      let lt = ltb-true i (length fs) so in
      let s = get_or ts i zero in
      let ka = kept_at fs ts st l env t i rd.below rd.kept lt in
      let f = form_at fs i in
      let x = held fs env i in
      let hd : HoldsAt f s l x = subst (λ m. KeptAs m f s l x) (bound_there false i (st i) (us i lt)) ka.0 in
      let m = copied_from_ok f x s t u w t k K l σ (omega (arith, rm, ka.1)) (omega (arith, rm)) (λ e. omega (arith, e, ka.1)) rd.fit hd (rd.fit.free t (omega arith)) in
      there (machine p deepest ks F) M 20 m.steps _ _ x σ (Done p deepest ks F b M n false (Bound false i) fs env ts st t u w k K l σ) (Away p deepest ks F b d K) m.goes (omega (arith, m.few))
      (record {
        next = m.next;
        comes = refl;
        fit = m.fit (suc t) u w (omega arith) (fit_more p deepest ks F t u w l σ rd.fit);
        same = record { hands = λ y ly o. m.hands y (λ e. omega (arith, e, ly)); numbers = λ y ly. m.numbers y (λ e. omega (arith, e, ly)); iterators = m.iterators; arrays = λ y ly. m.arrays y };
        own = λ j q. refl;
        kept = kept_copied fs ts st l m.next env t i rd.below lt (λ y ly. m.hands y (λ e. omega (arith, e, ly))) (λ y ly. m.numbers y (λ e. omega (arith, e, ly))) rd.kept;
        stands = m.holds;
        meant = plain_stands p deepest ks F b M n f x (Numbered zero) σ (rd.plain i);
      })

  -- Names.

  pub get_global : (i : ℕ) → ExprOk p deepest ks F b M n (Get (Global false i))
  unfolding emitted all_emitted evaluated all_evaluated sorted all_sorted
  get_global i v fs env ts st t u w d k K l σ so us rm ar rd =
      let kinds = kinds_of p.globals in
      let x = global_value i σ in
      there (machine p deepest ks F) M 18 4 _ _ x σ (Done p deepest ks F b M n v (Get (Global false i)) fs env ts st t u w k K l σ) (Away p deepest ks F b d K)
      (copied_global p deepest ks F b l (NameHand i) t x σ (kind_below kinds i Boxed so) (omega (arith, rm)) (ap (λ c. name_hand c (suc (suc (arrays_before kinds i))) x) (kind_found kinds i Boxed so)) (ap is_owned (rd.fit.free t (omega arith)))) (omega arith)
      (put_done p deepest ks F b M n (Get (Global false i)) v fs env ts st t u w k K l l σ σ x _ rd.below (same_self ts t w l) (λ j q. refl) rd.kept refl tt (put_value p deepest ks F b M t u w k K l x σ rd.fit))

  pub get_parameter : (i : ℕ) → ExprOk p deepest ks F b M n (Get (Parameter false i))
  unfolding emitted all_emitted evaluated all_evaluated sorted all_sorted
  get_parameter i v fs env ts st t u w d k K l σ so us rm ar rd =
      let x = local_value i σ in
      let lt = kind_below ks i Boxed so in
      let pk = rd.parameters in
      there (machine p deepest ks F) M 18 4 _ _ x σ (Done p deepest ks F b M n v (Get (Parameter false i)) fs env ts st t u w k K l σ) (Away p deepest ks F b d K)
      (copied_local p deepest ks F b l (Param i) t x σ (omega (arith, lt, pk)) (omega (arith, rm)) (λ e. omega (arith, e, lt, pk)) (rd.fit.params i Boxed so) (ap is_owned (rd.fit.free t (omega arith)))) (omega arith)
      (put_done p deepest ks F b M n (Get (Parameter false i)) v fs env ts st t u w k K l l σ σ x _ rd.below (same_self ts t w l) (λ j q. refl) rd.kept refl tt (put_value p deepest ks F b M t u w k K l x σ rd.fit))
