-- Loops with a test. A turn is a test, which is paid; then the body, and what stands between the body and the next test.
use Rattle.std.proofs.Common.{◌≡◌, ℕ, zero, suc, ◌+◌, ◌^◌, ◌≤◌, Bool, true, false, List, [], ◌∷◌, Some, None, Option, refl, sym, ap, ◌∙◌, arith}
use Rattle.std.specs.Prelude.{◌&&◌, cond, if◌then◌else◌, pos}
use Rattle.std.proofs.lemmas.Bool.{and_parts}
use Rattle.wasm_types.specs.Syntax.{Instructions, Done as NoMore}
use Rattle.wasm_types.specs.declared.types.ValType.TheVariants.{I32}
use Rattle.wasm_types.specs.declared.instr.Simple.TheVariants.{Nop, Br, BrIf, Test, I64Const}
use Rattle.wasm_types.specs.declared.instr.ITestOp.TheVariants.{Eqz}
use Rattle.mid_program.specs.Mid.{Kind, Program, Code, Step, Loop}
use Rattle.sem_scripts.specs.ScriptRun.{GoesOn}
use Rattle.sem_scripts.specs.ScriptState.{State, Stop, Outcome, Execution, ◌>>=◌, ◌>>◌, nothing, give, go_on}
use Rattle.mid_program.specs.Sorted.{test_sorted, step_sorted, steps_sorted}
use Rattle.sem_scripts.specs.Statements.{Flow, Normal, Broke, Continued, after_round, loop}
use Rattle.lower_model.specs.Emission.{tested, name_read}
use Rattle.lower_model.specs.Noted.{noted, noting, step_noted, steps_noted}
use Rattle.lower_model.specs.Quick.{Within, test_within, Counted, counted_in, Pair, pair_in, pair_names, all_unsure, step_jumps, is_nothing, Holder, OfName, OfParameter}
use Rattle.lower_model.specs.Machine.{Conf, Label, Frame, at, label, ending_at, is_walk, loops_walked}
use Rattle.lower_model.specs.Places.{Bases, step_room, step_iterators, step_arrays}
use Rattle.lower_model.specs.Small.{emit}
use Rattle.lower_model.specs.Statements.{block, again, left_unless, left_unless_counted, left_unless_pair, step_emitted, steps_emitted}
use Rattle.lower_model.proofs.Observer.{Observer}
use Rattle.lower_model.proofs.Runs.{Goes, goes_from, by_steps, stays, first, then_on, then_step, there, turned, weaker, Onward}
use Rattle.lower_model.proofs.Locals.{Locals, laid}
use Rattle.lower_model.proofs.Relation.{Away, away_out, fit_turns}
use Rattle.lower_model.proofs.Pieces.{closes}
use Rattle.lower_model.proofs.Answers.{machine, beside_state, Reached}
use Rattle.lower_model.proofs.Simulation.{work_of, context, layout, ExprOk}
use Rattle.lower_model.proofs.StatementForms.{step_work, flows_on, step_meant, Starts, starts_after, starts_among, Here, StepDone, StepOk}
use Rattle.lower_model.proofs.Tidy.{nop_ok, starts_noted, begun_step}
use Rattle.lower_model.proofs.Branches.{TestDone, test_meant, test_ok}
use Rattle.lower_model.proofs.Walks.{test_walks}
use Rattle.lower_model.proofs.QuickSteps.{Left, left_unless_ok}
use Rattle.lower_model.proofs.Jumping.{sorted_anyway}

-- Where the machine is after a test, after a body, and after a loop.

abbrev pub after_test : (State → Conf → Type 0) → (State → Conf → Type 0) → Bool → State → Conf → Type 0
after_test inside outside true σ c = inside σ c
after_test inside outside false σ c = outside σ c

abbrev pub after_body : (State → Conf → Type 0) → (State → Conf → Type 0) → Flow → State → Conf → Type 0
after_body between outside Normal σ c = between σ c
after_body between outside Broke σ c = outside σ c
after_body between outside Continued σ c = between σ c

abbrev pub after_loop : (State → Conf → Type 0) → Flow → State → Conf → Type 0
after_loop outside Normal σ c = outside σ c
after_loop outside Broke σ c = ⊥
after_loop outside Continued σ c = ⊥

module _ (p : Program) (deepest : Observer) (ks : List Kind) (F : List Frame) (b : Bases) (M n : ℕ) where
  -- a step before a test, which spends a turn
  pub record Turn (Test : State → Conf → Type 0) (σ : State) (c : Conf) : Type 0 where
    pub conf : Conf
    pub goes : Goes (machine p deepest ks F) 1 c conf
    pub shows : ending_at c ≡ Some (GoesOn σ.shared.output)
    pub tests : (m : ℕ) → σ.turns ≡ suc m → Test (record σ { turns = m }) conf

  -- Any loop, if its parts do what they mean.
  module _ (Q : Stop → State → Conf → Type 0) (Test Body Between End : State → Conf → Type 0) (wt wb ws : ℕ) (test : Execution Bool) (body : Execution Flow) (between : Execution (Unit {0})) (few : suc (wt + (wb + ws)) ≤ M)
      (tests : (σ : State) (c : Conf) → Test σ c → Reached p deepest ks F b M wt σ.turns c (after_test Body End) Q (test σ))
      (bodies : (σ : State) (c : Conf) → Body σ c → Reached p deepest ks F b M wb σ.turns c (after_body Between End) Q (body σ))
      (betweens : (σ : State) (c : Conf) → Between σ c → Reached p deepest ks F b M ws σ.turns c (λ x. Turn Test) Q (between σ)) where
    flowed : (f : Flow) (σ : State) (c : Conf) (X : Execution Flow) → after_body Between End f σ c → ((τ : State) (c1 : Conf) → τ.turns ≤ σ.turns → Turn Test τ c1 → Reached p deepest ks F b M 0 τ.turns c1 (after_loop End) Q (X τ)) →
        Reached p deepest ks F b M ws σ.turns c (after_loop End) Q (after_round f (between >> X) σ)
    flowed Normal σ c X h next = then_on (machine p deepest ks F) M ws 0 ws σ.turns c (λ x. Turn Test) (after_loop End) Q (between σ) (λ x. X) (omega arith) (betweens σ c h) (λ x τ c1 le t. next τ c1 le t)
    flowed Broke σ c X h next = there (machine p deepest ks F) M ws 0 c c Normal σ (after_loop End) Q stays (omega arith) h
    flowed Continued σ c X h next = then_on (machine p deepest ks F) M ws 0 ws σ.turns c (λ x. Turn Test) (after_loop End) Q (between σ) (λ x. X) (omega arith) (betweens σ c h) (λ x τ c1 le t. next τ c1 le t)

    -- a body, and what comes after it
    pub round_ok : (σ : State) (c : Conf) (X : Execution Flow) → Body σ c → ((τ : State) (c1 : Conf) → τ.turns ≤ σ.turns → Turn Test τ c1 → Reached p deepest ks F b M 0 τ.turns c1 (after_loop End) Q (X τ)) →
        Reached p deepest ks F b M (wb + ws) σ.turns c (after_loop End) Q (go_on (body σ) (λ flow. after_round flow (between >> X)))
    round_ok σ c X h next =
        then_on (machine p deepest ks F) M wb ws (wb + ws) σ.turns c (after_body Between End) (after_loop End) Q (body σ) (λ flow. after_round flow (between >> X)) (omega arith) (bodies σ c h)
        (λ f τ c1 le q. flowed f τ c1 X q (λ τ1 c2 le1 t. next τ1 c2 (omega (arith, le, le1)) t))

    chosen : (x : Bool) (w : ℕ) (σ : State) (c : Conf) (X : Execution Flow) → after_test Body End x σ c → (Body σ c → Reached p deepest ks F b M w σ.turns c (after_loop End) Q (X σ)) → Reached p deepest ks F b M w σ.turns c (after_loop End) Q ((if x then X else give Normal) σ)
    chosen true w σ c X h next = next h
    chosen false w σ c X h next = there (machine p deepest ks F) M w 0 c c Normal σ (after_loop End) Q stays (omega arith) h

    pub rounds_ok : (m : ℕ) (σ : State) (c : Conf) → σ.turns ≤ m → Turn Test σ c → Reached p deepest ks F b M 0 σ.turns c (after_loop End) Q (loop m test body between σ)
    unfolding loop
    rounds_ok zero σ c le h = record { steps = 0; few = omega arith; enough = omega (arith, le); shows = h.shows }
    rounds_ok (suc m) σ c le h =
        let mach = machine p deepest ks F in
        turned mach M σ.turns 0 (wt + (wb + ws)) 0 σ c h.conf (after_loop End) Q _ refl h.goes h.shows (omega (arith, few)) (λ j e.
        then_on mach M wt (wb + ws) (wt + (wb + ws)) j h.conf (after_test Body End) (after_loop End) Q (test (record σ { turns = j })) _ (omega arith) (tests (record σ { turns = j }) h.conf (h.tests j e))
        (λ x τ c1 le1 q. chosen x (wb + ws) τ c1 _ q
        (λ h1. round_ok τ c1 (loop m test body between) h1 (λ τ1 c2 le2 t. rounds_ok m τ1 c2 (omega (arith, le, e, le1, le2)) t))))

  -- The parts of both loops.

  abbrev pub loop_labels : Instructions → Instructions → List Label → List Label
  loop_labels round k K = label [] (Some round) NoMore ∷ (label [] None k ∷ K)

  pub away_loop : (d : ℕ) (round k : Instructions) (K : List Label) (why : Stop) (σ : State) (c : Conf) → Away p deepest ks F b (suc (suc d)) (loop_labels round k K) why σ c → Away p deepest ks F b d K why σ c
  away_loop d round k K why σ c a = away_out p deepest ks F b d (label [] None k) K why σ c (away_out p deepest ks F b (suc d) (label [] (Some round) NoMore) (label [] None k ∷ K) why σ c a)

  module _ (u d : ℕ) (k : Instructions) (K : List Label) (l : Locals) (round : Instructions) (plain : is_walk (Some round) ≡ false) where
    abbrev inner : List Label
    inner = loop_labels round k K

    abbrev At : Instructions → State → Conf → Type 0
    At cs σ c = Here p deepest ks F b M n cs (loop_labels round k K) u l σ c

    abbrev Out : State → Conf → Type 0
    Out σ c = Here p deepest ks F b M n k K u l σ c

    inside : loops_walked (loop_labels round k K) ≡ loops_walked K
    inside = ap (λ t. cond t (suc (loops_walked K)) (loops_walked K)) plain

    pub enters : (l1 : Locals) (σ : State) → Starts p deepest ks F b M n u K l1 σ → Starts p deepest ks F b M n u (loop_labels round k K) l1 σ
    enters l1 σ s = starts_among p deepest ks F b M n u K (loop_labels round k K) l1 σ inside s

    pub leaves : (l1 : Locals) (σ : State) → Starts p deepest ks F b M n u (loop_labels round k K) l1 σ → Starts p deepest ks F b M n u K l1 σ
    leaves l1 σ s = starts_among p deepest ks F b M n u (loop_labels round k K) K l1 σ (sym inside) s

    -- the body's block ends
    body_ends : (cs : Instructions) (l1 : Locals) (f : Flow) (σ : State) (c : Conf) → ((x : ℕ) → l1.iterator x ≡ l.iterator x) → StepDone p deepest ks F b M n true u 2 zero NoMore (label [] None cs ∷ loop_labels round k K) l1 f σ c → Onward (machine p deepest ks F) M 1 (after_body (At cs) Out f σ) c
    body_ends cs l1 Normal σ c same h = record {
      conf = at ks [] inner (laid b h.next) F cs (beside_state p deepest ks F σ);
      steps = 1;
      few = omega arith;
      goes = goes_from h.comes closes;
      holds = record { next = h.next; comes = refl; starts = starts_among p deepest ks F b M n u (label [] None cs ∷ inner) inner h.next σ refl h.starts; iterators = λ x. h.iterators x ∙ same x };
    }
    body_ends cs l1 Broke σ c same h = record {
      conf = c;
      steps = 0;
      few = omega arith;
      goes = stays;
      holds = record { next = h.next; comes = h.comes; starts = leaves h.next σ (starts_among p deepest ks F b M n u (label [] None cs ∷ inner) inner h.next σ refl h.starts); iterators = λ x. h.iterators x ∙ same x };
    }
    body_ends cs l1 Continued σ c same h = record {
      conf = c;
      steps = 0;
      few = omega arith;
      goes = stays;
      holds = record { next = h.next; comes = h.comes; starts = starts_among p deepest ks F b M n u (label [] None cs ∷ inner) inner h.next σ refl h.starts; iterators = λ x. h.iterators x ∙ same x };
    }

    pub body_ok : (x : Step) → StepOk p deepest ks F b M n x → (r : Bool) (cs : Instructions) (σ : State) (c : Conf) →
        step_sorted (context p deepest ks F b M n) r true x ≡ true → step_room x ≤ b.temporaries → u + step_iterators x ≤ b.iterators → step_arrays x ≤ b.arrays → step_work x ≤ M →
        At (block (step_emitted (layout p deepest ks F b M n) x u (suc (suc (suc d))) 2 zero NoMore) cs) σ c →
        Reached p deepest ks F b M (step_work x + 2) σ.turns c (after_body (At cs) Out) (Away p deepest ks F b d K) (step_meant p deepest ks F b M n x u (suc (suc (suc d))) 2 zero NoMore σ)
    body_ok x ok r cs σ c so rm it ar wk h =
        let mach = machine p deepest ks F in
        let K1 = label [] None cs ∷ inner in
        first mach M 1 (step_work x + 1) (step_work x + 2) σ.turns c _ (after_body (At cs) Out) (Away p deepest ks F b d K) (step_meant p deepest ks F b M n x u (suc (suc (suc d))) 2 zero NoMore σ) (goes_from h.comes (by_steps 1 refl)) (omega arith)
        (then_step mach M 1 (step_work x) (step_work x + 1) σ.turns _ (StepDone p deepest ks F b M n true u 2 zero NoMore K1 h.next) (after_body (At cs) Out) (Away p deepest ks F b d K) (step_meant p deepest ks F b M n x u (suc (suc (suc d))) 2 zero NoMore σ) (omega arith)
        (λ f τ c1 q. body_ends cs h.next f τ c1 h.iterators q)
        (weaker mach M (step_work x) σ.turns _ (StepDone p deepest ks F b M n true u 2 zero NoMore K1 h.next) (StepDone p deepest ks F b M n true u 2 zero NoMore K1 h.next) (Away p deepest ks F b (suc (suc (suc d))) K1) (Away p deepest ks F b d K) (step_meant p deepest ks F b M n x u (suc (suc (suc d))) 2 zero NoMore σ)
        (λ f τ c1 q. q) (λ why τ c1 q. away_loop d round k K why τ c1 (away_out p deepest ks F b (suc (suc d)) (label [] None cs) inner why τ c1 q))
        (ok r true u (suc (suc (suc d))) 2 zero NoMore K1 h.next σ so rm it ar wk (starts_among p deepest ks F b M n u inner K1 h.next σ refl h.starts))))

    -- what stands between a body and the next test
    pub between_ok : (y : Step) → StepOk p deepest ks F b M n y → (r : Bool) (cs : Instructions) (σ : State) (c : Conf) (P : State → Conf → Type 0) →
        step_sorted (context p deepest ks F b M n) r false y ≡ true → step_room y ≤ b.temporaries → u + step_iterators y ≤ b.iterators → step_arrays y ≤ b.arrays → step_work y ≤ M → ((τ : State) (c1 : Conf) → At cs τ c1 → P τ c1) →
        At (step_emitted (layout p deepest ks F b M n) y u (suc (suc d)) 1 zero cs) σ c →
        Reached p deepest ks F b M (step_work y) σ.turns c (λ x. P) (Away p deepest ks F b d K) ((step_meant p deepest ks F b M n y u (suc (suc d)) 1 zero cs >> nothing) σ)
    between_ok y ok r cs σ c P so rm it ar wk goal h =
        let mach = machine p deepest ks F in
        let D = StepDone p deepest ks F b M n false u 1 zero cs inner h.next in
        first mach M 0 (step_work y) (step_work y) σ.turns c _ (λ x. P) (Away p deepest ks F b d K) _ (record { it = h.comes }) (omega arith)
        (then_on mach M (step_work y) 0 (step_work y) σ.turns _ D (λ x. P) (Away p deepest ks F b d K) (step_meant p deepest ks F b M n y u (suc (suc d)) 1 zero cs σ) _ (omega arith)
        (weaker mach M (step_work y) σ.turns _ D D (Away p deepest ks F b (suc (suc d)) inner) (Away p deepest ks F b d K) (step_meant p deepest ks F b M n y u (suc (suc d)) 1 zero cs σ)
        (λ f τ c1 q. q) (λ why τ c1 q. away_loop d round k K why τ c1 q)
        (ok r false u (suc (suc d)) 1 zero cs inner h.next σ so rm it ar wk h.starts))
        (λ f τ c1 le q. on_only f τ c1 h.next q h.iterators (goal τ c1)))
      where
        on_only : (f : Flow) (τ : State) (c1 : Conf) (l1 : Locals) → StepDone p deepest ks F b M n false u 1 zero cs inner l1 f τ c1 → ((x : ℕ) → l1.iterator x ≡ l.iterator x) → (At cs τ c1 → P τ c1) → Reached p deepest ks F b M 0 τ.turns c1 (λ x. P) (Away p deepest ks F b d K) (nothing τ)
        on_only Normal τ c1 l1 q same g = there (machine p deepest ks F) M 0 0 c1 c1 (tt {0}) τ (λ x. P) (Away p deepest ks F b d K) stays (omega arith) (g (record { next = q.next; comes = q.comes; starts = q.starts; iterators = λ x. q.iterators x ∙ same x }))
        on_only Broke τ c1 l1 q same g = absurd q.flows
        on_only Continued τ c1 l1 q same g = absurd q.flows

    -- once a turn is spent
    pub at_spent : (cs : Instructions) (σ : State) (l1 : Locals) (m : ℕ) → Starts p deepest ks F b M n u inner l1 σ → ((x : ℕ) → l1.iterator x ≡ l.iterator x) → σ.turns ≡ suc m → At cs (record σ { turns = m }) (at ks [] inner (laid b l1) F cs (beside_state p deepest ks F σ))
    at_spent cs σ l1 m s same e = record {
      next = l1;
      comes = refl;
      starts = starts_after p deepest ks F b M n u inner inner l1 l1 σ (record σ { turns = m }) s refl (omega (arith, e)) (λ x. refl) (fit_turns p deepest ks F 0 u 0 l1 σ m s.fit);
      iterators = same;
    }

  -- the end of a loop is that of its step
  loop_done : (lo : Bool) (u bk ct w m : ℕ) (k : Instructions) (K : List Label) (l : Locals) (c : Conf) (Q : Stop → State → Conf → Type 0) (r : Outcome Flow) →
      Reached p deepest ks F b M w m c (after_loop (Here p deepest ks F b M n k K u l)) Q r → Reached p deepest ks F b M w m c (StepDone p deepest ks F b M n lo u bk ct k K l) Q r
  loop_done lo u bk ct w m k K l c Q r a =
      weaker (machine p deepest ks F) M w m c (after_loop (Here p deepest ks F b M n k K u l)) (StepDone p deepest ks F b M n lo u bk ct k K l) Q Q r (λ f σ c1 h. by f σ c1 h) (λ why σ c1 q. q) a
    where
      by : (f : Flow) (σ : State) (c1 : Conf) → after_loop (Here p deepest ks F b M n k K u l) f σ c1 → StepDone p deepest ks F b M n lo u bk ct k K l f σ c1
      by Normal σ c1 h = record { next = h.next; comes = h.comes; starts = h.starts; iterators = h.iterators; flows = flows_on lo }
      by Broke σ c1 h = absurd h
      by Continued σ c1 h = absurd h

  -- A loop that begins with its test. Its body has a block where it may be left by `break` or `continue`.
  module _ (e : Code) (x y : Step) (u d : ℕ) (k : Instructions) (K : List Label) (l : Locals) where
    abbrev back : Instructions
    back = emit (Br zero) NoMore

    abbrev first_rest : Instructions
    first_rest = if is_nothing y then back else step_emitted (layout p deepest ks F b M n) y u (suc (suc d)) 1 zero back

    abbrev body_code : Bool → Instructions
    body_code j = if j then block (step_emitted (layout p deepest ks F b M n) x u (suc (suc (suc d))) 2 zero NoMore) first_rest else step_emitted (layout p deepest ks F b M n) x u (suc (suc d)) 1 zero first_rest

    abbrev first_body : Instructions
    first_body = body_code (step_jumps x)

    abbrev body_meant : Bool → Execution Flow
    body_meant j = if j then step_meant p deepest ks F b M n x u (suc (suc (suc d))) 2 zero NoMore else step_meant p deepest ks F b M n x u (suc (suc d)) 1 zero first_rest

    abbrev between_meant : Bool → Execution (Unit {0})
    between_meant j = if j then nothing else (step_meant p deepest ks F b M n y u (suc (suc d)) 1 zero back >> nothing)

    abbrev first_round : Instructions
    first_round = left_unless (layout p deepest ks F b M n) (test_within e) e (suc (suc d)) 1 first_body

    first_plain : is_walk (Some first_round) ≡ false
    first_plain = by (test_within e)
      where
        reads : (h : Holder) (z : ℕ) (k1 : Instructions) → is_walk (Some (emit (name_read (layout p deepest ks F b M n) h) (emit (I64Const z) k1))) ≡ false
        reads (OfName i) z k1 = refl
        reads (OfParameter i) z k1 = refl

        names : (is : List Holder) (k1 : Instructions) → is_walk (Some (all_unsure (name_read (layout p deepest ks F b M n)) is (pos (2 ^ 53)) (2 ^ 54) k1)) ≡ false
        names [] k1 = refl
        names (i ∷ is) k1 = reads i _ _

        counted : (o : Option Counted) → is_walk (Some (left_unless_counted (layout p deepest ks F b M n) o e (suc (suc d)) 1 first_body)) ≡ false
        counted None = test_walks (layout p deepest ks F b M n) e (suc (suc d)) (emit (Test I32 Eqz) (emit (BrIf 1) first_body))
        counted (Some q) = reads q.name _ _

        pair : (o : Option Pair) → is_walk (Some (left_unless_pair (layout p deepest ks F b M n) o e (suc (suc d)) 1 first_body)) ≡ false
        pair None = counted (counted_in e)
        pair (Some q) = names (pair_names q) _

        by : (o : Option Within) → is_walk (Some (left_unless (layout p deepest ks F b M n) o e (suc (suc d)) 1 first_body)) ≡ false
        by None = pair (pair_in e)
        by (Some q) = reads q.name _ _

    first_chosen : (l1 : Locals) (t : Bool) (σ : State) (c : Conf) → ((z : ℕ) → l1.iterator z ≡ l.iterator z) → Left p deepest ks F b M n 1 first_body (loop_labels first_round k K) u l1 t σ c →
        after_test (Here p deepest ks F b M n first_body (loop_labels first_round k K) u l) (Here p deepest ks F b M n k K u l) t σ c
    first_chosen l1 true σ c same h = record { next = h.next; comes = h.comes; starts = h.starts; iterators = λ z. h.iterators z ∙ same z }
    first_chosen l1 false σ c same h = record { next = h.next; comes = h.comes; starts = leaves u d k K l first_round first_plain h.next σ h.starts; iterators = λ z. h.iterators z ∙ same z }

    -- a body that is left in no other way than at its end
    plain_body : (okx : StepOk p deepest ks F b M n x) (r : Bool) (σ : State) (c : Conf) → step_jumps x ≡ false →
        step_sorted (context p deepest ks F b M n) r true x ≡ true → step_room x ≤ b.temporaries → u + step_iterators x ≤ b.iterators → step_arrays x ≤ b.arrays → step_work x ≤ M →
        Here p deepest ks F b M n (step_emitted (layout p deepest ks F b M n) x u (suc (suc d)) 1 zero first_rest) (loop_labels first_round k K) u l σ c →
        Reached p deepest ks F b M (step_work x + 2) σ.turns c (after_body (Here p deepest ks F b M n first_rest (loop_labels first_round k K) u l) (Here p deepest ks F b M n k K u l)) (Away p deepest ks F b d K) (body_meant false σ)
    plain_body okx r σ c nj so rm it ar wk h =
        let mach = machine p deepest ks F in
        let Kl = loop_labels first_round k K in
        let D = StepDone p deepest ks F b M n false u 1 zero first_rest Kl h.next in
        let P = after_body (Here p deepest ks F b M n first_rest Kl u l) (Here p deepest ks F b M n k K u l) in
        first mach M 0 (step_work x) (step_work x + 2) σ.turns c _ P (Away p deepest ks F b d K) (body_meant false σ) (record { it = h.comes }) (omega arith)
        (weaker mach M (step_work x) σ.turns _ D P (Away p deepest ks F b (suc (suc d)) Kl) (Away p deepest ks F b d K) (body_meant false σ)
        (λ f τ c1 q. only f τ c1 q) (λ why τ c1 q. away_loop d first_round k K why τ c1 q)
        (okx r false u (suc (suc d)) 1 zero first_rest Kl h.next σ (sorted_anyway (context p deepest ks F b M n) r x so nj) rm it ar wk h.starts))
      where
        only : (f : Flow) (τ : State) (c1 : Conf) → StepDone p deepest ks F b M n false u 1 zero first_rest (loop_labels first_round k K) h.next f τ c1 → after_body (Here p deepest ks F b M n first_rest (loop_labels first_round k K) u l) (Here p deepest ks F b M n k K u l) f τ c1
        only Normal τ c1 q = record { next = q.next; comes = q.comes; starts = q.starts; iterators = λ z. q.iterators z ∙ h.iterators z }
        only Broke τ c1 q = absurd q.flows
        only Continued τ c1 q = absurd q.flows

    first_bodies : (okx : StepOk p deepest ks F b M n x) (r : Bool) (σ : State) (c : Conf) →
        step_sorted (context p deepest ks F b M n) r true x ≡ true → step_room x ≤ b.temporaries → u + step_iterators x ≤ b.iterators → step_arrays x ≤ b.arrays → step_work x ≤ M →
        Here p deepest ks F b M n first_body (loop_labels first_round k K) u l σ c →
        Reached p deepest ks F b M (step_work x + 2) σ.turns c (after_body (Here p deepest ks F b M n first_rest (loop_labels first_round k K) u l) (Here p deepest ks F b M n k K u l)) (Away p deepest ks F b d K) (body_meant (step_jumps x) σ)
    first_bodies okx r σ c so rm it ar wk h = by (step_jumps x) refl h
      where
        by : (j : Bool) → step_jumps x ≡ j → Here p deepest ks F b M n (body_code j) (loop_labels first_round k K) u l σ c →
            Reached p deepest ks F b M (step_work x + 2) σ.turns c (after_body (Here p deepest ks F b M n first_rest (loop_labels first_round k K) u l) (Here p deepest ks F b M n k K u l)) (Away p deepest ks F b d K) (body_meant j σ)
        by true e1 h1 = body_ok u d k K l first_round first_plain x okx r first_rest σ c so rm it ar wk h1
        by false e1 h1 = plain_body okx r σ c e1 so rm it ar wk h1

  -- what is done once its place is noted
  first_done : (e : Code) (x y : Step) → ExprOk p deepest ks F b M n e → StepOk p deepest ks F b M n x → StepOk p deepest ks F b M n y → (r lo : Bool) (u d bk ct : ℕ) (k : Instructions) (K : List Label) (l : Locals) (σ : State) →
      step_sorted (context p deepest ks F b M n) r lo (Loop true e x y) ≡ true → step_room (Loop true e x y) ≤ b.temporaries → u + step_iterators (Loop true e x y) ≤ b.iterators → step_arrays (Loop true e x y) ≤ b.arrays → step_work (Loop true e x y) ≤ M → Starts p deepest ks F b M n u K l σ →
      Reached p deepest ks F b M (39 + (work_of e + (step_work x + step_work y))) σ.turns (at ks [] K (laid b l) F (block (again (first_round e x y u d k K l) NoMore) k) (beside_state p deepest ks F σ)) (StepDone p deepest ks F b M n lo u bk ct k K l) (Away p deepest ks F b d K)
      (loop n (test_meant p deepest ks F b M n e) (body_meant e x y u d k K l (step_jumps x)) (between_meant e x y u d k K l (is_nothing y)) σ)
  unfolding step_sorted steps_sorted
  first_done e x y oke okx oky r lo u d bk ct k K l σ so rm it ar wk s =
      let mach = machine p deepest ks F in
      let ctx = context p deepest ks F b M n in
      let s1 = and_parts (test_sorted ctx e) (step_sorted ctx r true x && step_sorted ctx r false y) so in
      let s2 = and_parts (step_sorted ctx r true x) (step_sorted ctx r false y) s1.1 in
      let round = first_round e x y u d k K l in
      let plain = first_plain e x y u d k K l in
      let Kl = loop_labels round k K in
      let Q = Away p deepest ks F b d K in
      let Tests = Here p deepest ks F b M n round Kl u l in
      let End = Here p deepest ks F b M n k K u l in
      let Body = Here p deepest ks F b M n (first_body e x y u d k K l) Kl u l in
      let Between = Here p deepest ks F b M n (first_rest e x y u d k K l) Kl u l in
      let s3 = enters u d k K l round plain l σ s in
      let turn : (τ1 : State) (c1 : Conf) → Here p deepest ks F b M n (emit (Br zero) NoMore) Kl u l τ1 c1 → Turn Tests τ1 c1 = λ τ1 c1 q. record {
        conf = at ks [] Kl (laid b q.next) F round (beside_state p deepest ks F τ1);
        goes = goes_from q.comes (by_steps 1 refl);
        shows = ap ending_at q.comes;
        tests = λ m eq. at_spent u d k K l round plain round τ1 q.next m q.starts q.iterators eq;
      } in
      first mach M 1 0 (39 + (work_of e + (step_work x + step_work y))) σ.turns _ (at ks [] (label [] None k ∷ K) (laid b l) F (again round NoMore) (beside_state p deepest ks F σ)) (StepDone p deepest ks F b M n lo u bk ct k K l) Q _
      (by_steps 1 refl) (omega arith)
      (loop_done lo u bk ct 0 σ.turns k K l _ Q _
      (rounds_ok Q Tests Body Between End (work_of e + 24) (step_work x + 2) (step_work y) (test_meant p deepest ks F b M n e) (body_meant e x y u d k K l (step_jumps x)) (between_meant e x y u d k K l (is_nothing y)) (omega (arith, wk))
      (λ τ c h.
      first mach M 0 (work_of e + 24) (work_of e + 24) τ.turns c _ (after_test Body End) Q _ (record { it = h.comes }) (omega arith)
      (weaker mach M (work_of e + 24) τ.turns _ (Left p deepest ks F b M n 1 (first_body e x y u d k K l) Kl u h.next) (after_test Body End) (Away p deepest ks F b (suc (suc d)) Kl) Q (test_meant p deepest ks F b M n e τ)
      (λ t τ1 c1 q. first_chosen e x y u d k K l h.next t τ1 c1 h.iterators q) (λ why τ1 c1 q. away_loop d round k K why τ1 c1 q)
      (left_unless_ok p deepest ks F b M n e oke u (suc (suc d)) 1 (first_body e x y u d k K l) Kl h.next τ s1.0 (omega (arith, rm)) (omega (arith, ar)) h.starts)))
      (λ τ c h. first_bodies e x y u d k K l okx r τ c s2.0 (omega (arith, rm)) (omega (arith, it)) (omega (arith, ar)) (omega (arith, wk)) h)
      (λ τ c h. between_or_not u d k K l round plain y oky r (emit (Br zero) NoMore) τ c (Turn Tests) s2.1 (omega (arith, rm)) (omega (arith, it)) (omega (arith, ar)) (omega (arith, wk)) turn h)
      n σ _ s.turns
      (record {
        conf = at ks [] Kl (laid b l) F round (beside_state p deepest ks F σ);
        goes = by_steps 1 refl;
        shows = refl;
        tests = λ m eq. at_spent u d k K l round plain round σ l m s3 (λ z. refl) eq;
      })))
    where
      meant_between : (u d : ℕ) (cs : Instructions) (y : Step) → Bool → Execution (Unit {0})
      meant_between u d cs y j = if j then nothing else (step_meant p deepest ks F b M n y u (suc (suc d)) 1 zero cs >> nothing)

      between_or_not : (u d : ℕ) (k : Instructions) (K : List Label) (l : Locals) (round : Instructions) (plain : is_walk (Some round) ≡ false) (y : Step) → StepOk p deepest ks F b M n y → (r : Bool) (cs : Instructions) (σ : State) (c : Conf) (P : State → Conf → Type 0) →
          step_sorted (context p deepest ks F b M n) r false y ≡ true → step_room y ≤ b.temporaries → u + step_iterators y ≤ b.iterators → step_arrays y ≤ b.arrays → step_work y ≤ M → ((τ : State) (c1 : Conf) → Here p deepest ks F b M n cs (loop_labels round k K) u l τ c1 → P τ c1) →
          Here p deepest ks F b M n (if is_nothing y then cs else step_emitted (layout p deepest ks F b M n) y u (suc (suc d)) 1 zero cs) (loop_labels round k K) u l σ c →
          Reached p deepest ks F b M (step_work y) σ.turns c (λ x. P) (Away p deepest ks F b d K) (meant_between u d cs y (is_nothing y) σ)
      between_or_not u d k K l round plain y oky r cs σ c P so rm it ar wk goal h = by (is_nothing y) refl h
        where
          by : (j : Bool) → is_nothing y ≡ j → Here p deepest ks F b M n (if j then cs else step_emitted (layout p deepest ks F b M n) y u (suc (suc d)) 1 zero cs) (loop_labels round k K) u l σ c →
              Reached p deepest ks F b M (step_work y) σ.turns c (λ x. P) (Away p deepest ks F b d K) (meant_between u d cs y j σ)
          by true e1 h1 = there (machine p deepest ks F) M (step_work y) 0 c c (tt {0}) σ (λ x. P) (Away p deepest ks F b d K) stays (omega arith) (goal σ c h1)
          by false e1 h1 = between_ok u d k K l round plain y oky r cs σ c P so rm it ar wk goal h1

  pub loop_first : (e : Code) (x y : Step) → ExprOk p deepest ks F b M n e → StepOk p deepest ks F b M n x → StepOk p deepest ks F b M n y → StepOk p deepest ks F b M n (Loop true e x y)
  unfolding step_emitted steps_emitted step_noted steps_noted
  loop_first e x y oke okx oky r lo u d bk ct k K l σ so rm it ar wk s =
      begun_step p deepest ks F b M n _ (39 + (work_of e + (step_work x + step_work y))) (40 + (work_of e + (step_work x + step_work y))) u K l σ (StepDone p deepest ks F b M n lo u bk ct k K l) (Away p deepest ks F b d K)
      (loop n (test_meant p deepest ks F b M n e) (body_meant e x y u d k K l (step_jumps x)) (between_meant e x y u d k K l (is_nothing y))) (omega arith) s
      (λ τ s1. first_done e x y oke okx oky r lo u d bk ct k K l τ so rm it ar wk s1)

  -- A loop whose first round goes without the test.
  module _ (e : Code) (x y : Step) (u d : ℕ) (k : Instructions) (K : List Label) (l : Locals) where
    abbrev last_test : Instructions
    last_test = tested (layout p deepest ks F b M n) [] [] e zero zero (suc (suc d)) (emit (BrIf zero) NoMore)

    abbrev last_rest : Instructions
    last_rest = step_emitted (layout p deepest ks F b M n) y u (suc (suc d)) 1 zero (emit Nop last_test)

    abbrev last_round : Instructions
    last_round = block (step_emitted (layout p deepest ks F b M n) x u (suc (suc (suc d))) 2 zero NoMore) last_rest

    abbrev last_tested : Execution Bool
    last_tested = noted deepest.notes (emit Nop last_test) >> test_meant p deepest ks F b M n e

    abbrev last_between : Execution (Unit {0})
    last_between = step_meant p deepest ks F b M n y u (suc (suc d)) 1 zero (emit Nop last_test) >> nothing

    abbrev last_meant : Execution Flow
    last_meant =
        step_meant p deepest ks F b M n x u (suc (suc (suc d))) 2 zero NoMore >>= λ flow.
        after_round flow (last_between >> loop n last_tested (step_meant p deepest ks F b M n x u (suc (suc (suc d))) 2 zero NoMore) last_between)

    last_chosen : (l1 : Locals) (t : Bool) (σ : State) (c : Conf) → ((z : ℕ) → l1.iterator z ≡ l.iterator z) → TestDone p deepest ks F b M n (emit (BrIf zero) NoMore) (loop_labels last_round k K) u l1 t σ c →
        Onward (machine p deepest ks F) M 3 (after_test (Here p deepest ks F b M n last_round (loop_labels last_round k K) u l) (Here p deepest ks F b M n k K u l) t σ) c
    last_chosen l1 true σ c same h = record {
      conf = at ks [] (loop_labels last_round k K) (laid b h.next) F last_round (beside_state p deepest ks F σ);
      steps = 1;
      few = omega arith;
      goes = goes_from h.comes (by_steps 1 refl);
      holds = record { next = h.next; comes = refl; starts = h.starts; iterators = λ z. h.iterators z ∙ same z };
    }
    last_chosen l1 false σ c same h = record {
      conf = at ks [] K (laid b h.next) F k (beside_state p deepest ks F σ);
      steps = 3;
      few = omega arith;
      goes = goes_from h.comes (by_steps 3 refl);
      holds = record { next = h.next; comes = refl; starts = leaves u d k K l last_round refl h.next σ h.starts; iterators = λ z. h.iterators z ∙ same z };
    }

  -- what is done once its place is noted
  last_done : (e : Code) (x y : Step) → ExprOk p deepest ks F b M n e → StepOk p deepest ks F b M n x → StepOk p deepest ks F b M n y → (r lo : Bool) (u d bk ct : ℕ) (k : Instructions) (K : List Label) (l : Locals) (σ : State) →
      step_sorted (context p deepest ks F b M n) r lo (Loop false e x y) ≡ true → step_room (Loop false e x y) ≤ b.temporaries → u + step_iterators (Loop false e x y) ≤ b.iterators → step_arrays (Loop false e x y) ≤ b.arrays → step_work (Loop false e x y) ≤ M → Starts p deepest ks F b M n u K l σ →
      Reached p deepest ks F b M (39 + (work_of e + (step_work x + step_work y))) σ.turns (at ks [] K (laid b l) F (block (again (last_round e x y u d k K l) NoMore) k) (beside_state p deepest ks F σ)) (StepDone p deepest ks F b M n lo u bk ct k K l) (Away p deepest ks F b d K) (last_meant e x y u d k K l σ)
  unfolding step_sorted steps_sorted
  last_done e x y oke okx oky r lo u d bk ct k K l σ so rm it ar wk s =
      let mach = machine p deepest ks F in
      let ctx = context p deepest ks F b M n in
      let s1 = and_parts (test_sorted ctx e) (step_sorted ctx r true x && step_sorted ctx r false y) so in
      let s2 = and_parts (step_sorted ctx r true x) (step_sorted ctx r false y) s1.1 in
      let round = last_round e x y u d k K l in
      let test = last_test e x y u d k K l in
      let Kl = loop_labels round k K in
      let Q = Away p deepest ks F b d K in
      let place = emit Nop test in
      let Tests : State → Conf → Type 0 = λ τ c. Here p deepest ks F b M n test Kl u l (noting deepest.notes place τ) c in
      let End = Here p deepest ks F b M n k K u l in
      let Body = Here p deepest ks F b M n round Kl u l in
      let Between = Here p deepest ks F b M n (last_rest e x y u d k K l) Kl u l in
      let tests : (τ : State) (c : Conf) → Tests τ c → Reached p deepest ks F b M (work_of e + 17) τ.turns c (after_test Body End) Q ((noted deepest.notes place >> test_meant p deepest ks F b M n e) τ) = (λ τ0 c h.
      let τ : State = noting deepest.notes place τ0 in
      first mach M 0 (work_of e + 17) (work_of e + 17) τ.turns c _ (after_test Body End) Q _ (record { it = h.comes }) (omega arith)
      (then_step mach M 3 (work_of e + 14) (work_of e + 17) τ.turns _ (TestDone p deepest ks F b M n (emit (BrIf zero) NoMore) Kl u h.next) (after_test Body End) Q (test_meant p deepest ks F b M n e τ) (omega arith)
      (λ t τ1 c1 q. last_chosen e x y u d k K l h.next t τ1 c1 h.iterators q)
      (weaker mach M (work_of e + 14) τ.turns _ (TestDone p deepest ks F b M n (emit (BrIf zero) NoMore) Kl u h.next) (TestDone p deepest ks F b M n (emit (BrIf zero) NoMore) Kl u h.next) (Away p deepest ks F b (suc (suc d)) Kl) Q (test_meant p deepest ks F b M n e τ)
      (λ t τ1 c1 q. q) (λ why τ1 c1 q. away_loop d round k K why τ1 c1 q)
      (test_ok p deepest ks F b M n e oke u (suc (suc d)) (emit (BrIf zero) NoMore) Kl h.next τ s1.0 (omega (arith, rm)) (omega (arith, ar)) h.starts)))) in
      let bodies : (τ : State) (c : Conf) → Body τ c → Reached p deepest ks F b M (step_work x + 2) τ.turns c (after_body Between End) Q (step_meant p deepest ks F b M n x u (suc (suc (suc d))) 2 zero NoMore τ) =
      (λ τ c h. body_ok u d k K l round refl x okx r (last_rest e x y u d k K l) τ c s2.0 (omega (arith, rm)) (omega (arith, it)) (omega (arith, ar)) (omega (arith, wk)) h) in
      let betweens : (τ : State) (c : Conf) → Between τ c → Reached p deepest ks F b M (step_work y) τ.turns c (λ z. Turn Tests) Q ((step_meant p deepest ks F b M n y u (suc (suc d)) 1 zero place >> nothing) τ) =
      (λ τ c h. between_ok u d k K l round refl y oky r (emit Nop test) τ c (Turn Tests) s2.1 (omega (arith, rm)) (omega (arith, it)) (omega (arith, ar)) (omega (arith, wk))
      (λ τ1 c1 q. record {
        conf = at ks [] Kl (laid b q.next) F test (beside_state p deepest ks F (noting deepest.notes place τ1));
        goes = goes_from q.comes (nop_ok p deepest ks F b M n u Kl q.next τ1 q.starts);
        shows = ap ending_at q.comes;
        tests = λ m eq. at_spent u d k K l round refl test (noting deepest.notes place τ1) q.next m (starts_noted p deepest ks F b M n place u Kl q.next τ1 q.starts) q.iterators eq;
      }) h) in
      first mach M 2 ((step_work x + 2) + step_work y) (39 + (work_of e + (step_work x + step_work y))) σ.turns _ (at ks [] Kl (laid b l) F round (beside_state p deepest ks F σ)) (StepDone p deepest ks F b M n lo u bk ct k K l) Q _
      (by_steps 2 refl) (omega arith)
      (loop_done lo u bk ct ((step_work x + 2) + step_work y) σ.turns k K l _ Q _
      (round_ok Q Tests Body Between End (work_of e + 17) (step_work x + 2) (step_work y) (noted deepest.notes place >> test_meant p deepest ks F b M n e) (step_meant p deepest ks F b M n x u (suc (suc (suc d))) 2 zero NoMore) (step_meant p deepest ks F b M n y u (suc (suc d)) 1 zero place >> nothing) (omega (arith, wk)) tests bodies betweens σ _
      (loop n (noted deepest.notes place >> test_meant p deepest ks F b M n e) (step_meant p deepest ks F b M n x u (suc (suc (suc d))) 2 zero NoMore) (step_meant p deepest ks F b M n y u (suc (suc d)) 1 zero place >> nothing))
      (record { next = l; comes = refl; starts = enters u d k K l round refl l σ s; iterators = λ z. refl })
      (λ τ c1 le t. let q = s.turns in rounds_ok Q Tests Body Between End (work_of e + 17) (step_work x + 2) (step_work y) (noted deepest.notes place >> test_meant p deepest ks F b M n e) (step_meant p deepest ks F b M n x u (suc (suc (suc d))) 2 zero NoMore) (step_meant p deepest ks F b M n y u (suc (suc d)) 1 zero place >> nothing) (omega (arith, wk)) tests bodies betweens n τ c1 (omega (arith, le, q)) t)))

  pub loop_last : (e : Code) (x y : Step) → ExprOk p deepest ks F b M n e → StepOk p deepest ks F b M n x → StepOk p deepest ks F b M n y → StepOk p deepest ks F b M n (Loop false e x y)
  unfolding step_emitted steps_emitted step_noted steps_noted
  loop_last e x y oke okx oky r lo u d bk ct k K l σ so rm it ar wk s =
      begun_step p deepest ks F b M n _ (39 + (work_of e + (step_work x + step_work y))) (40 + (work_of e + (step_work x + step_work y))) u K l σ (StepDone p deepest ks F b M n lo u bk ct k K l) (Away p deepest ks F b d K) (last_meant e x y u d k K l) (omega arith) s
      (λ τ s1. last_done e x y oke okx oky r lo u d bk ct k K l τ so rm it ar wk s1)
