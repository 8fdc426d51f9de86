-- What is evaluated first is dropped, or kept while something else is evaluated.
use Rattle.std.proofs.Common.{◌≡◌, ◌≢◌, inl, ℕ, zero, suc, ◌+◌, ◌<◌, ◌≤◌, Bool, true, false, List, [], ◌∷◌, length, refl, sym, ap, ◌∙◌, subst, arith}
use Rattle.std.specs.Prelude.{◌&&◌}
use Rattle.std.proofs.lemmas.Bool.{and_parts}
use Rattle.sem_primitives.specs.declared.sorts.Answer.TheVariants as answer
use Rattle.sem_primitives.specs.declared.sorts.Sort.TheVariants as sort
use Rattle.wasm_types.specs.Syntax.{Instructions}
use Rattle.mid_program.specs.Mid.{Kind, Program, Form, PrimitiveAnswer, NumberOrText, Code, Set, Seq, Let, Bound, form_of, form_at}
use Rattle.mid_program.specs.MidMeaning.{Holds, Env, evaluated, all_evaluated}
use Rattle.sem_scripts.specs.ScriptState.{State}
use Rattle.mid_program.specs.Sorted.{Held as Standing, There, Moved, Misused, sorted, all_sorted, held_after, is_well_used, is_dropped, is_kept, keeps_well}
use Rattle.lower_model.specs.Cells.{Cell, Bits, Held, IteratorOf, OwnedArray, LentArray, Gone, is_owned, left_by}
use Rattle.lower_model.specs.Emission.{emitted, all_emitted, left_over, sequence_closed, keeping_closed}
use Rattle.lower_model.specs.Machine.{Conf, Label, Frame, at, loops_walked}
use Rattle.lower_model.specs.Places.{Bases, handle_local}
use Rattle.lower_model.specs.Small.{unused, released, moved_from, number_copied, let_go, moved}
use Rattle.host_imports.specs.declared.import.Import.TheVariants.{Drop}
use Rattle.lower_model.proofs.Observer.{Observer}
use Rattle.lower_model.proofs.Runs.{Goes, then_goes, stays, goes_from, first, then_on, then_step}
use Rattle.lower_model.proofs.Regions.{upd_same, upd_other}
use Rattle.lower_model.proofs.Locals.{Locals, Hand, Number as NumberAt, with_at, laid}
use Rattle.lower_model.proofs.Steps.{empty, set_ok, get_copied, moved_out_ok}
use Rattle.lower_model.proofs.State.{BareIs}
use Rattle.lower_model.proofs.Relation.{IsHand, HoldsAt, WordIs, LeftBy, hand_left, KeptAs, kept_same, Same, same_then, Fit, fit_less, fit_more, fit_hand, fit_number, Away, holds_same}
use Rattle.lower_model.proofs.Pieces.{drop_ok, let_go_hand}
use Rattle.lower_model.proofs.Answers.{machine, beside_state}
use Rattle.lower_model.proofs.Simulation.{work_of, gives_away, StandsAt, still_stands, layout, context, meant, Done, ExprOk, room_one, NoArray, walking_same}
use Rattle.lower_model.proofs.Operands.{well_before}
use Rattle.lower_model.proofs.Arguments.{Under, under_self, under_keeps, under_same}
use Rattle.lower_model.proofs.Converting.{Keeps, keeps_self, keeps_hand}

pub unowned_left : (c : Cell) → is_owned c ≡ false → left_by c ≡ c
unowned_left (Bits w) e = refl
unowned_left (Held v) e = cc
unowned_left (IteratorOf t) e = cc
unowned_left (OwnedArray a) e = cc
unowned_left (LentArray a) e = refl
unowned_left Gone e = refl

-- what a move leaves in a local for a handle
abbrev pub LeftHand : Form → Cell → Cell
LeftHand (PrimitiveAnswer (answer.Of sort.Value)) c = empty
LeftHand NumberOrText c = empty
LeftHand f c = c

pub kept_plain : (g : Form) → is_kept g ≡ true → NoArray g
kept_plain (PrimitiveAnswer (answer.Of sort.Array)) e = absurd cc
kept_plain g e = tt

-- one more is kept
abbrev pub consed : Standing → (ℕ → Standing) → ℕ → Standing
consed h st zero = h
consed h st (suc i) = st i

pub kept_left : (m : Standing) (f : Form) (t : ℕ) (l : Locals) (x : Holds f) → KeptAs m f t l x → LeftBy f (l.hand t)
kept_left There f t l x q = hand_left f t l x q
kept_left Moved f t l x q = q
kept_left Misused f t l x q = q

module _ (p : Program) (deepest : Observer) (ks : List Kind) (F : List Frame) (b : Bases) (M n : ℕ) where
  -- a temporary has no handle any more
  pub record Freed (t u w : ℕ) (most : ℕ) (c : Conf) (k : Instructions) (K : List Label) (l : Locals) (σ : State) : Type 0 where
    pub next : Locals
    pub steps : ℕ
    pub few : steps ≤ most
    pub goes : Goes (machine p deepest ks F) steps c (at ks [] K (laid b next) F k (beside_state p deepest ks F σ))
    pub fit : Fit p deepest ks F t u w next σ
    pub hand : next.hand t ≡ empty
    pub keeps : Keeps t l next

  freed_self : (t u w most : ℕ) (k : Instructions) (K : List Label) (l : Locals) (σ : State) → Fit p deepest ks F (suc t) u w l σ → l.hand t ≡ empty → Freed t u w most (at ks [] K (laid b l) F k (beside_state p deepest ks F σ)) k K l σ
  freed_self t u w most k K l σ ft e = record { next = l; steps = 0; few = omega arith; goes = stays; fit = fit_less p deepest ks F t u w l σ e ft; hand = e; keeps = keeps_self t l }

  fit_emptied : (t u w : ℕ) (l : Locals) (σ : State) → Fit p deepest ks F (suc t) u w l σ → Fit p deepest ks F t u w (with_at l (Hand t) empty) σ
  fit_emptied t u w l σ ft = fit_less p deepest ks F t u w (with_at l (Hand t) empty) σ (upd_same l.hand t empty) (fit_hand p deepest ks F t (suc t) u w l σ empty (inl refl) (omega arith) ft)

  freed_hand : (t u w : ℕ) (k : Instructions) (K : List Label) (l : Locals) (σ : State) → t < b.temporaries → Fit p deepest ks F (suc t) u w l σ → Freed t u w 8 (at ks [] K (laid b l) F (let_go Drop (handle_local b t) k) (beside_state p deepest ks F σ)) k K l σ
  freed_hand t u w k K l σ lt ft =
      let g = let_go_hand {u = machine p deepest ks F} {ks = ks} {F = F} b (Hand t) K l k (beside_state p deepest ks F σ) lt (ft.hands t) in
      record { next = with_at l (Hand t) empty; steps = g.steps; few = g.few; goes = g.goes; fit = fit_emptied t u w l σ ft; hand = upd_same l.hand t empty; keeps = keeps_hand t l empty }

  -- what is in a temporary is dropped
  pub unused_ok : (f : Form) (x : Holds f) (t u w : ℕ) (k : Instructions) (K : List Label) (l : Locals) (σ : State) → t < b.temporaries → Fit p deepest ks F (suc t) u w l σ → HoldsAt f t l x → Freed t u w 8 (at ks [] K (laid b l) F (unused b f t k) (beside_state p deepest ks F σ)) k K l σ
  unused_ok (PrimitiveAnswer (answer.Of sort.Value)) x t u w k K l σ lt ft q = record {
    next = with_at l (Hand t) empty;
    steps = 3;
    few = omega arith;
    goes = then_goes (moved_out_ok b l (Hand t) (Held x) lt q.0) (drop_ok x []);
    fit = fit_emptied t u w l σ ft;
    hand = upd_same l.hand t empty;
    keeps = keeps_hand t l empty;
  }
  unused_ok NumberOrText x t u w k K l σ lt ft q = freed_hand t u w k K l σ lt ft
  unused_ok _ x t u w k K l σ lt ft q = freed_self t u w 8 k K l σ ft q.0

  pub left_ok : (a : Code) (f : Form) (x : Holds f) (t u w : ℕ) (k : Instructions) (K : List Label) (l : Locals) (σ : State) → t < b.temporaries → Fit p deepest ks F (suc t) u w l σ → StandsAt (gives_away a true) f t l x → Freed t u w 8 (at ks [] K (laid b l) F (left_over (layout p deepest ks F b M n) a f t k) (beside_state p deepest ks F σ)) k K l σ
  left_ok (Set y e) f x t u w k K l σ lt ft q = freed_self t u w 8 k K l σ ft q
  left_ok (Seq y e) f x t u w k K l σ lt ft q = freed_self t u w 8 k K l σ ft q
  left_ok (Let y e) f x t u w k K l σ lt ft q = freed_self t u w 8 k K l σ ft q
  left_ok (Bound y e) f x t u w k K l σ lt ft q = freed_self t u w 8 k K l σ ft q
  left_ok _ f x t u w k K l σ lt ft q = unused_ok f x t u w k K l σ lt ft q

  -- the end of a sequence: its answer stays, or is dropped
  record SequenceClosed (v : Bool) (c : Code) (f : Form) (x : Holds f) (t u w : ℕ) (k : Instructions) (K : List Label) (l : Locals) (σ : State) : Type 0 where
    next : Locals
    steps : ℕ
    few : steps ≤ 8
    goes : Goes (machine p deepest ks F) steps (at ks [] K (laid b l) F (sequence_closed (layout p deepest ks F b M n) v c f t k) (beside_state p deepest ks F σ)) (at ks [] K (laid b next) F k (beside_state p deepest ks F σ))
    fit : Fit p deepest ks F (suc t) u w next σ
    stands : StandsAt v f t next x
    under : Under t l next

  sequence_ends : (v : Bool) (c : Code) (f : Form) (x : Holds f) (t u w : ℕ) (k : Instructions) (K : List Label) (l : Locals) (σ : State) → t < b.temporaries → Fit p deepest ks F (suc t) u w l σ → StandsAt (gives_away c v) f t l x → SequenceClosed v c f x t u w k K l σ
  sequence_ends true c f x t u w k K l σ lt ft q =
      let g = left_ok c f x t u w k K l σ lt ft q in
      record { next = g.next; steps = g.steps; few = g.few; goes = g.goes; fit = fit_more p deepest ks F t u w g.next σ g.fit; stands = g.hand; under = under_keeps t t l g.next (omega arith) g.keeps }
  sequence_ends false c f x t u w k K l σ lt ft q = record { next = l; steps = 0; few = omega arith; goes = stays; fit = ft; stands = still_stands c f t l x q; under = under_self t l }

  pub seq_expr : (a c : Code) → ExprOk p deepest ks F b M n a → ExprOk p deepest ks F b M n c → ExprOk p deepest ks F b M n (Seq a c)
  unfolding emitted all_emitted evaluated all_evaluated sorted all_sorted
  seq_expr a c oka okc v fs env ts st t u w d k K l σ so us rm ar rd =
      let mach = machine p deepest ks F in
      let ctx = context p deepest ks F b M n in
      let Q = Away p deepest ks F b d K in
      let P = Done p deepest ks F b M n v (Seq a c) fs env ts st t u w k K l σ in
      let st1 : ℕ → Standing = λ i. held_after i a (st i) in
      let s1 = and_parts (is_dropped (form_of fs a)) (sorted ctx fs a && sorted ctx fs c) so in
      let s2 = and_parts (sorted ctx fs a) (sorted ctx fs c) s1.1 in
      let k3 = sequence_closed (layout p deepest ks F b M n) v c (form_of fs c) t k in
      let k2 = emitted (layout p deepest ks F b M n) v fs ts c t w d k3 in
      let k1 = left_over (layout p deepest ks F b M n) a (form_of fs a) t k2 in
      let r1 = room_one a in
      then_on mach M (work_of a) (16 + work_of c) (work_of (Seq a c)) σ.turns _ (Done p deepest ks F b M n true a fs env ts st t u w k1 K l σ) P Q (meant p deepest ks F b M n fs env a σ) _ (omega arith)
      (oka true fs env ts st t u w d k1 K l σ s2.0 (λ i lt. well_before i c (st1 i) (us i lt)) (omega (arith, rm)) (omega (arith, ar)) rd)
      (λ x τ c1 le h.
      let g = left_ok a (form_of fs a) x t u w k2 K h.next τ (omega (arith, rm, r1)) h.fit h.stands in
      first mach M g.steps (8 + work_of c) (16 + work_of c) τ.turns c1 _ P Q _ (goes_from h.comes g.goes) (omega (arith, g.few))
      (then_step mach M 8 (work_of c) (8 + work_of c) τ.turns _ (Done p deepest ks F b M n v c fs env ts st1 t u w k3 K g.next τ) P Q (meant p deepest ks F b M n fs env c τ) (omega arith)
      (λ y τ1 c2 h2.
      let z = sequence_ends v c (form_of fs c) y t u w k K h2.next τ1 (omega (arith, rm, r1)) h2.fit h2.stands in
      record {
        conf = at ks [] K (laid b z.next) F k (beside_state p deepest ks F τ1);
        steps = z.steps;
        few = z.few;
        goes = goes_from h2.comes z.goes;
        holds = record {
          next = z.next;
          comes = refl;
          fit = z.fit;
          same = same_then ts t t w w l h2.next z.next (omega arith) (omega arith) (same_then ts t t w w l g.next h2.next (omega arith) (omega arith) (same_then ts t t w w l h.next g.next (omega arith) (omega arith) h.same (under_same ts t w h.next g.next (under_keeps t t h.next g.next (omega arith) g.keeps))) h2.same) (under_same ts t w h2.next z.next z.under);
          own = λ i q. h2.own i q ∙ h.own i q;
          kept = kept_same fs ts (λ i. held_after i c (st1 i)) h2.next z.next env t rd.below z.under.hands z.under.numbers h2.kept;
          stands = z.stands;
          meant = h2.meant;
        };
      })
      (okc v fs env ts st1 t u w d k3 K g.next τ s2.1 us (omega (arith, rm)) (omega (arith, ar))
      (record { below = rd.below; kept = kept_same fs ts st1 h.next g.next env t rd.below (λ y lt. g.keeps.hands y (λ z. omega (arith, z, lt))) (λ y lt. g.keeps.numbers y (λ z. omega (arith, z, lt))) h.kept; fit = g.fit; turns = omega (arith, le, rd.turns); parameters = rd.parameters; plain = rd.plain; walking = walking_same p deepest ks F b M n (loops_walked K) u l g.next (λ x. g.keeps.iterators x ∙ h.same.iterators x) rd.walking; none = rd.none }))))

  -- Moves from one temporary to another.

  pub record MovedTo (s t : ℕ) (f : Form) (k : Instructions) (K : List Label) (l : Locals) (x : Holds f) (σ : State) (c : Conf) : Type 0 where
    pub next : Locals
    pub steps : ℕ
    pub few : steps ≤ 5
    pub goes : Goes (machine p deepest ks F) steps c (at ks [] K (laid b next) F k (beside_state p deepest ks F σ))
    pub holds : HoldsAt f t next x
    pub hand : next.hand s ≡ LeftHand f (l.hand s)
    pub hands : (y : ℕ) → y ≢ s → y ≢ t → next.hand y ≡ l.hand y
    pub numbers : (y : ℕ) → y ≢ t → next.number y ≡ l.number y
    pub iterators : (y : ℕ) → next.iterator y ≡ l.iterator y
    pub arrays : (y : ℕ) → next.array y ≡ l.array y
    pub fit : (q u w : ℕ) → s < q → t < q → Fit p deepest ks F q u w l σ → Fit p deepest ks F q u w next σ

  -- a number is copied
  pub copied_ok : {k : Instructions} {K : List Label} → (s t : ℕ) (l : Locals) (σ : State) → s < b.temporaries → t < b.temporaries → is_owned (l.number s) ≡ false → is_owned (l.number t) ≡ false →
      Goes (machine p deepest ks F) 2 (at ks [] K (laid b l) F (number_copied b s t k) (beside_state p deepest ks F σ)) (at ks [] K (laid b (with_at l (NumberAt t) (l.number s))) F k (beside_state p deepest ks F σ))
  copied_ok s t l σ ls lt os ot = then_goes (get_copied b l (NumberAt s) (l.number s) ls refl (unowned_left (l.number s) os)) (set_ok b l (NumberAt t) (l.number s) lt ot)

  -- a handle is moved
  moved_ok : {k : Instructions} {K : List Label} → (s t : ℕ) (l : Locals) (σ : State) → s < b.temporaries → t < b.temporaries → t ≢ s → l.hand t ≡ empty →
      Goes (machine p deepest ks F) 3 (at ks [] K (laid b l) F (moved (handle_local b s) (handle_local b t) k) (beside_state p deepest ks F σ)) (at ks [] K (laid b (with_at (with_at l (Hand s) empty) (Hand t) (l.hand s))) F k (beside_state p deepest ks F σ))
  moved_ok s t l σ ls lt ne e = then_goes (moved_out_ok b l (Hand s) (l.hand s) ls refl) (set_ok b (with_at l (Hand s) empty) (Hand t) (l.hand s) lt (ap is_owned (upd_other l.hand s t empty ne ∙ e)))

  fit_moved : (s t q u w : ℕ) (l : Locals) (σ : State) → s < q → t < q → IsHand (l.hand s) → Fit p deepest ks F q u w l σ → Fit p deepest ks F q u w (with_at (with_at l (Hand s) empty) (Hand t) (l.hand s)) σ
  fit_moved s t q u w l σ ls lt h ft = fit_hand p deepest ks F t q u w (with_at l (Hand s) empty) σ (l.hand s) h lt (fit_hand p deepest ks F s q u w l σ empty (inl refl) ls ft)

  pub moved_from_ok : (f : Form) (x : Holds f) (s t u w q0 : ℕ) (k : Instructions) (K : List Label) (l : Locals) (σ : State) → s < b.temporaries → t < b.temporaries → t ≢ s → Fit p deepest ks F q0 u w l σ → HoldsAt f s l x → l.hand t ≡ empty →
      MovedTo s t f k K l x σ (at ks [] K (laid b l) F (moved_from b f s t k) (beside_state p deepest ks F σ))
  moved_from_ok (PrimitiveAnswer (answer.Of sort.Value)) x s t u w q0 k K l σ ls lt ne ft hd e =
      let l1 = with_at l (Hand s) empty in
      record {
        next = with_at l1 (Hand t) (l.hand s);
        steps = 3;
        few = omega arith;
        goes = moved_ok s t l σ ls lt ne e;
        holds = (upd_same l1.hand t (l.hand s) ∙ hd.0, tt);
        hand = upd_other l1.hand t s (l.hand s) (λ z. ne (sym z)) ∙ upd_same l.hand s empty;
        hands = λ y ns nt. upd_other l1.hand t y (l.hand s) nt ∙ upd_other l.hand s y empty ns;
        numbers = λ y nt. refl;
        iterators = λ y. refl;
        arrays = λ y. refl;
        fit = λ q u1 w1 lq lq1 g. fit_moved s t q u1 w1 l σ lq lq1 (ft.hands s) g;
      }
  moved_from_ok NumberOrText x s t u w q0 k K l σ ls lt ne ft hd e =
      let l0 = with_at l (NumberAt t) (l.number s) in
      let l1 = with_at l0 (Hand s) empty in
      record {
        next = with_at l1 (Hand t) (l.hand s);
        steps = 5;
        few = omega arith;
        goes = then_goes (copied_ok s t l σ ls lt (ft.numbers s) (ft.numbers t)) (moved_ok s t l0 σ ls lt ne e);
        holds = (hd.0, upd_same l.number t (l.number s) ∙ hd.1, subst (λ c. BareIs x hd.0 c) (sym (upd_same l1.hand t (l.hand s))) hd.2);
        hand = upd_other l1.hand t s (l.hand s) (λ z. ne (sym z)) ∙ upd_same l.hand s empty;
        hands = λ y ns nt. upd_other l1.hand t y (l.hand s) nt ∙ upd_other l.hand s y empty ns;
        numbers = λ y nt. upd_other l.number t y (l.number s) nt;
        iterators = λ y. refl;
        arrays = λ y. refl;
        fit = λ q u1 w1 lq lq1 g. fit_moved s t q u1 w1 l0 σ lq lq1 (ft.hands s) (fit_number p deepest ks F t q u1 w1 l σ (l.number s) (ft.numbers s) g);
      }
  moved_from_ok g x s t u w q0 k K l σ ls lt ne ft hd e = record {
    next = with_at l (NumberAt t) (l.number s);
    steps = 2;
    few = omega arith;
    goes = copied_ok s t l σ ls lt (ft.numbers s) (ft.numbers t);
    holds = (e, subst (λ c. WordIs g x c) (sym (upd_same l.number t (l.number s))) hd.1);
    hand = refl;
    hands = λ y ns nt. refl;
    numbers = λ y nt. upd_other l.number t y (l.number s) nt;
    iterators = λ y. refl;
    arrays = λ y. refl;
    fit = λ q u1 w1 lq lq1 g1. fit_number p deepest ks F t q u1 w1 l σ (l.number s) (ft.numbers s) g1;
  }

  -- what was kept is dropped, unless it was moved away
  pub record Released (t : ℕ) (c : Conf) (k : Instructions) (K : List Label) (l : Locals) (σ : State) : Type 0 where
    pub next : Locals
    pub steps : ℕ
    pub few : steps ≤ 8
    pub goes : Goes (machine p deepest ks F) steps c (at ks [] K (laid b next) F k (beside_state p deepest ks F σ))
    pub hand : next.hand t ≡ empty
    pub keeps : Keeps t l next
    pub fit : (q u w : ℕ) → t < q → Fit p deepest ks F q u w l σ → Fit p deepest ks F q u w next σ

  released_hand : (t : ℕ) (k : Instructions) (K : List Label) (l : Locals) (σ : State) → t < b.temporaries → IsHand (l.hand t) → Released t (at ks [] K (laid b l) F (let_go Drop (handle_local b t) k) (beside_state p deepest ks F σ)) k K l σ
  released_hand t k K l σ lt hd =
      let g = let_go_hand {u = machine p deepest ks F} {ks = ks} {F = F} b (Hand t) K l k (beside_state p deepest ks F σ) lt hd in
      record { next = with_at l (Hand t) empty; steps = g.steps; few = g.few; goes = g.goes; hand = upd_same l.hand t empty; keeps = keeps_hand t l empty; fit = λ q u w lq f. fit_hand p deepest ks F t q u w l σ empty (inl refl) lq f }

  pub released_ok : (f : Form) (t : ℕ) (k : Instructions) (K : List Label) (l : Locals) (σ : State) → t < b.temporaries → IsHand (l.hand t) → LeftBy f (l.hand t) → Released t (at ks [] K (laid b l) F (released b f t k) (beside_state p deepest ks F σ)) k K l σ
  released_ok (PrimitiveAnswer (answer.Of sort.Value)) t k K l σ lt hd q = released_hand t k K l σ lt hd
  released_ok NumberOrText t k K l σ lt hd q = released_hand t k K l σ lt hd
  released_ok f t k K l σ lt hd q = record { next = l; steps = 0; few = omega arith; goes = stays; hand = q; keeps = keeps_self t l; fit = λ q u w lq g. g }

  -- where a temporary is empty a move leaves nothing behind
  pub left_empty : (f : Form) (c d : Cell) → LeftBy f c → d ≡ LeftHand f c → d ≡ empty
  left_empty (PrimitiveAnswer (answer.Of sort.Value)) c d e q = q
  left_empty NumberOrText c d e q = q
  left_empty f c d e q = q ∙ e

  pub record Closed (v : Bool) (c : Code) (g f : Form) (y : Holds f) (t u w : ℕ) (k : Instructions) (K : List Label) (l : Locals) (σ : State) : Type 0 where
    pub next : Locals
    pub steps : ℕ
    pub few : steps ≤ 16
    pub goes : Goes (machine p deepest ks F) steps (at ks [] K (laid b l) F (keeping_closed (layout p deepest ks F b M n) v c g f t k) (beside_state p deepest ks F σ)) (at ks [] K (laid b next) F k (beside_state p deepest ks F σ))
    pub fit : Fit p deepest ks F (suc t) u w next σ
    pub stands : StandsAt v f t next y
    pub under : Under t l next

  -- the end of what is kept: it is dropped, and the answer is dropped before, or moves into its place
  closed : (v : Bool) (c : Code) (g f : Form) (y : Holds f) (t u w : ℕ) (k : Instructions) (K : List Label) (l : Locals) (σ : State) → suc t < b.temporaries → Fit p deepest ks F (suc (suc t)) u w l σ → LeftBy g (l.hand t) → StandsAt (gives_away c v) f (suc t) l y →
      Closed v c g f y t u w k K l σ
  closed true c g f y t u w k K l σ lt ft lb st =
      let a = left_ok c f y (suc t) u w (released b g t k) K l σ lt ft st in
      let r = released_ok g t k K a.next σ (omega (arith, lt)) (a.fit.hands t) (subst (LeftBy g) (sym (a.keeps.hands t (λ z. omega (arith, z)))) lb) in
      record {
        next = r.next;
        steps = a.steps + r.steps;
        few = omega (arith, a.few, r.few);
        goes = then_goes a.goes r.goes;
        fit = r.fit (suc t) u w (omega arith) a.fit;
        stands = r.hand;
        under = record {
          hands = λ z lz. r.keeps.hands z (λ e. omega (arith, e, lz)) ∙ a.keeps.hands z (λ e. omega (arith, e, lz));
          numbers = λ z lz. r.keeps.numbers z (λ e. omega (arith, e, lz)) ∙ a.keeps.numbers z (λ e. omega (arith, e, lz));
          iterators = λ z. r.keeps.iterators z ∙ a.keeps.iterators z;
          arrays = λ z. r.keeps.arrays z ∙ a.keeps.arrays z;
        };
      }
  closed false c g f y t u w k K l σ lt ft lb st =
      let hd = still_stands c f (suc t) l y st in
      let r = released_ok g t (moved_from b f (suc t) t k) K l σ (omega (arith, lt)) (ft.hands t) lb in
      let f1 = r.fit (suc (suc t)) u w (omega arith) ft in
      let h1 = holds_same f (suc t) l r.next y (r.keeps.hands (suc t) (λ z. omega (arith, z))) (r.keeps.numbers (suc t) (λ z. omega (arith, z))) hd in
      let m = moved_from_ok f y (suc t) t u w (suc (suc t)) k K r.next σ lt (omega (arith, lt)) (λ z. omega (arith, z)) f1 h1 r.hand in
      record {
        next = m.next;
        steps = r.steps + m.steps;
        few = omega (arith, r.few, m.few);
        goes = then_goes r.goes m.goes;
        fit = fit_less p deepest ks F (suc t) u w m.next σ (left_empty f (r.next.hand (suc t)) (m.next.hand (suc t)) (hand_left f (suc t) r.next y h1) m.hand) (m.fit (suc (suc t)) u w (omega arith) (omega arith) f1);
        stands = m.holds;
        under = record {
          hands = λ z lz. m.hands z (λ e. omega (arith, e, lz)) (λ e. omega (arith, e, lz)) ∙ r.keeps.hands z (λ e. omega (arith, e, lz));
          numbers = λ z lz. m.numbers z (λ e. omega (arith, e, lz)) ∙ r.keeps.numbers z (λ e. omega (arith, e, lz));
          iterators = λ z. m.iterators z ∙ r.keeps.iterators z;
          arrays = λ z. m.arrays z ∙ r.keeps.arrays z;
        };
      }

  pub let_expr : (a c : Code) → ExprOk p deepest ks F b M n a → ExprOk p deepest ks F b M n c → ExprOk p deepest ks F b M n (Let a c)
  unfolding emitted all_emitted evaluated all_evaluated sorted all_sorted
  let_expr a c oka okc v fs env ts st t u w d k K l σ so us rm ar rd =
      let mach = machine p deepest ks F in
      let ctx = context p deepest ks F b M n in
      let Q = Away p deepest ks F b d K in
      let g : Form = form_of fs a in
      let gs : List Form = g ∷ fs in
      let f : Form = form_of gs c in
      let P = Done p deepest ks F b M n v (Let a c) fs env ts st t u w k K l σ in
      let st1 : ℕ → Standing = λ i. held_after i a (st i) in
      let st2 : ℕ → Standing = consed There st1 in
      let s1 = and_parts (is_kept g) (keeps_well c && (sorted ctx fs a && sorted ctx gs c)) so in
      let s2 = and_parts (keeps_well c) (sorted ctx fs a && sorted ctx gs c) s1.1 in
      let s3 = and_parts (sorted ctx fs a) (sorted ctx gs c) s2.1 in
      let k3 = keeping_closed (layout p deepest ks F b M n) v c g f t k in
      let k1 = emitted (layout p deepest ks F b M n) v gs (t ∷ ts) c (suc t) w d k3 in
      let rc = room_one c in
      then_on mach M (work_of a) (work_of c + 16) (work_of (Let a c)) σ.turns _ (Done p deepest ks F b M n false a fs env ts st t u w k1 K l σ) P Q (meant p deepest ks F b M n fs env a σ) _ (omega arith)
      (oka false fs env ts st t u w d k1 K l σ s3.0 (λ i lt. well_before (suc i) c (st1 i) (us i lt)) (omega (arith, rm)) (omega (arith, ar)) rd)
      (λ x τ c1 le h1.
      let env2 : Env gs = (x, env) in
      let used : (i : ℕ) → i < length gs → is_well_used (held_after i c (st2 i)) ≡ true = all_used fs c st1 s2.0 us in
      first mach M 0 (work_of c + 16) (work_of c + 16) τ.turns c1 _ P Q _ (record { it = h1.comes }) (omega arith)
      (then_step mach M 16 (work_of c) (work_of c + 16) τ.turns _ (Done p deepest ks F b M n v c gs env2 (t ∷ ts) st2 (suc t) u w k3 K h1.next τ) P Q (meant p deepest ks F b M n gs env2 c τ) (omega arith)
      (λ y τ1 c2 h2.
      let z = closed v c g f y t u w k K h2.next τ1 (omega (arith, rm, rc)) h2.fit (kept_left (held_after zero c There) g t h2.next x h2.kept.0) h2.stands in
      let o = rd.below in
      record {
        conf = at ks [] K (laid b z.next) F k (beside_state p deepest ks F τ1);
        steps = z.steps;
        few = z.few;
        goes = goes_from h2.comes z.goes;
        holds = record {
          next = z.next;
          comes = refl;
          fit = z.fit;
          same = same_then ts t t w w l h1.next z.next (omega arith) (omega arith) h1.same (inner_same ts t w h1.next h2.next z.next h2.same z.under);
          own = λ i q. h2.own i q ∙ h1.own i q;
          kept = kept_same fs ts (λ i. held_after (suc i) c (st1 i)) h2.next z.next env t o (λ y1 lt. z.under.hands y1 lt) (λ y1 lt. z.under.numbers y1 lt) h2.kept.1;
          stands = z.stands;
          meant = h2.meant;
        };
      })
      (okc v gs env2 (t ∷ ts) st2 (suc t) u w d k3 K h1.next τ s3.1 used (omega (arith, rm)) (omega (arith, ar))
      (record { below = (omega arith, rd.below); kept = (still_stands a g t h1.next x h1.stands, h1.kept); fit = h1.fit; turns = omega (arith, le, rd.turns); parameters = rd.parameters; plain = all_plain fs g s1.0 rd.plain; walking = walking_same p deepest ks F b M n (loops_walked K) u l h1.next (λ x. h1.same.iterators x) rd.walking; none = rd.none }))))
    where
      all_plain : (fs : List Form) (g : Form) → is_kept g ≡ true → ((i : ℕ) → NoArray (form_at fs i)) → (i : ℕ) → NoArray (form_at (g ∷ fs) i)
      all_plain fs g e q zero = kept_plain g e
      all_plain fs g e q (suc i) = q i

      inner_same : (ts : List ℕ) (t w : ℕ) (l1 l2 l3 : Locals) → Same (t ∷ ts) (suc t) w l1 l2 → Under t l2 l3 → Same ts t w l1 l3
      inner_same ts t w l1 l2 l3 s r = record {
        hands = λ y lt o. r.hands y lt ∙ s.hands y (omega (arith, lt)) ((λ e. omega (arith, e, lt)), o);
        numbers = λ y lt. r.numbers y lt ∙ s.numbers y (omega (arith, lt));
        iterators = λ y. r.iterators y ∙ s.iterators y;
        arrays = λ y lt. r.arrays y ∙ s.arrays y lt;
      }

      all_used : (fs : List Form) (c : Code) (st1 : ℕ → Standing) → keeps_well c ≡ true → ((i : ℕ) → i < length fs → is_well_used (held_after (suc i) c (st1 i)) ≡ true) → (i : ℕ) → i < suc (length fs) → is_well_used (held_after i c (consed There st1 i)) ≡ true
      all_used fs c st1 e us zero lt = e
      all_used fs c st1 e us (suc i) lt = us i (omega (arith, lt))
