-- Tests, and one of two steps.
use Rattle.std.proofs.Common.{◌≡◌, ℕ, zero, suc, ◌+◌, ◌≤◌, Bool, true, false, List, [], ◌∷◌, None, refl, ◌∙◌, arith}
use Rattle.std.specs.Prelude.{nat_eq, cond, if◌then◌else◌}
use Rattle.std.proofs.lemmas.Bool.{and_parts}
use Rattle.sem_primitives.specs.ConstantNumbers.{flag_number}
use Rattle.wasm_types.specs.Syntax.{Instructions, Done as NoMore}
use Rattle.wasm_store.specs.declared.word.Word.TheVariants.{I32}
use Rattle.mid_program.specs.Mid.{Kind, Program, Code, Step, form_of}
use Rattle.mid_program.specs.MidMeaning.{holds, truth_in}
use Rattle.sem_scripts.specs.ScriptState.{State, Stop, Execution}
use Rattle.mid_program.specs.Sorted.{There, calls_of, sorted, is_tested, test_sorted, step_sorted}
use Rattle.sem_scripts.specs.Statements.{Flow, Normal, Broke, Continued}
use Rattle.lower_model.specs.Cells.{Cell, Bits}
use Rattle.lower_model.specs.Emission.{tested}
use Rattle.lower_model.specs.Machine.{Conf, Label, Frame, at, label}
use Rattle.lower_model.specs.Noted.{noted_called}
use Rattle.lower_model.specs.Places.{Bases, room, arrays_in, step_room, step_iterators, step_arrays}
use Rattle.lower_model.specs.Small.{truth}
use Rattle.lower_model.specs.Statements.{step_emitted}
use Rattle.lower_model.proofs.Observer.{Observer}
use Rattle.lower_model.proofs.Runs.{goes_from, then_on, there, within, Onward, stays}
use Rattle.lower_model.proofs.Locals.{Locals, laid}
use Rattle.lower_model.proofs.Relation.{Away}
use Rattle.lower_model.proofs.Pieces.{closes}
use Rattle.lower_model.proofs.Answers.{machine, beside_state, Reached}
use Rattle.lower_model.proofs.Simulation.{work_of, context, layout, meant, Done, ExprOk, room_one, still_stands}
use Rattle.lower_model.proofs.Converting.{blocked}
use Rattle.lower_model.proofs.Choosing.{truth_ok}
use Rattle.lower_model.proofs.StatementForms.{step_work, step_meant, Starts, ready, starts_after, starts_among, StepDone, StepOk}
use Rattle.lower_model.proofs.Sequences.{done_before}

module _ (p : Program) (deepest : Observer) (ks : List Kind) (F : List Frame) (b : Bases) (M n : ℕ) where
  -- a truth is on the stack
  pub record TestDone (k : Instructions) (K : List Label) (u : ℕ) (l : Locals) (x : Bool) (σ : State) (c : Conf) : Type 0 where
    pub next : Locals
    pub comes : c ≡ at ks (Bits (I32 (flag_number x)) ∷ []) K (laid b next) F k (beside_state p deepest ks F σ)
    pub starts : Starts p deepest ks F b M n u K next σ
    pub iterators : (y : ℕ) → next.iterator y ≡ l.iterator y

  -- whether a test holds
  abbrev pub test_meant : Code → Execution Bool
  test_meant e = holds p.texts (calls_of p) n (noted_called deepest.notes p n) e

  pub test_ok : (e : Code) → ExprOk p deepest ks F b M n e → (u d : ℕ) (k : Instructions) (K : List Label) (l : Locals) (σ : State) → test_sorted (context p deepest ks F b M n) e ≡ true → room e ≤ b.temporaries → arrays_in e ≤ b.arrays → Starts p deepest ks F b M n u K l σ →
      Reached p deepest ks F b M (work_of e + 14) σ.turns (at ks [] K (laid b l) F (tested (layout p deepest ks F b M n) [] [] e zero zero d k) (beside_state p deepest ks F σ)) (TestDone k K u l) (Away p deepest ks F b d K) (test_meant e σ)
  test_ok e ok u d k K l σ so rm ar s =
      let mach = machine p deepest ks F in
      let ctx = context p deepest ks F b M n in
      let Q = Away p deepest ks F b d K in
      let P = TestDone k K u l in
      let k1 = truth b (form_of [] e) zero k in
      let s1 = and_parts (is_tested (form_of [] e)) (sorted ctx [] e) so in
      let r1 = room_one e in
      then_on mach M (work_of e) 14 (work_of e + 14) σ.turns _ (Done p deepest ks F b M n false e [] tt [] (λ i. There) zero u zero k1 K l σ) P Q (meant p deepest ks F b M n [] tt e σ) _ (omega arith)
      (ok false [] tt [] (λ i. There) zero u zero d k1 K l σ s1.1 (λ i lt. absurd (omega (arith, lt))) (omega (arith, rm)) (omega (arith, ar)) (ready p deepest ks F b M n u K l σ s))
      (λ x τ c1 le h.
      let g = truth_ok p deepest ks F b M n (form_of [] e) x zero u zero k K h.next τ s1.0 (omega (arith, rm, r1)) h.fit (still_stands e (form_of [] e) zero h.next x h.stands) in
      let same : (y : ℕ) → g.next.iterator y ≡ l.iterator y = λ y. g.keeps.iterators y ∙ h.same.iterators y in
      there mach M 14 g.steps c1 _ (truth_in (form_of [] e) x) τ P Q (goes_from h.comes g.goes) (omega (arith, g.few))
      (record { next = g.next; comes = refl; starts = starts_after p deepest ks F b M n u K K l g.next σ τ s refl le same g.fit; iterators = same }))

  -- at the end of a block
  pub block_ends : (lo : Bool) (u bk ct : ℕ) (k : Instructions) (K : List Label) (l : Locals) (f : Flow) (σ : State) (c : Conf) → StepDone p deepest ks F b M n lo u (suc bk) (suc ct) NoMore (label [] None k ∷ K) l f σ c → Onward (machine p deepest ks F) M 1 (StepDone p deepest ks F b M n lo u bk ct k K l f σ) c
  block_ends lo u bk ct k K l Normal σ c h = record {
    conf = at ks [] K (laid b h.next) F k (beside_state p deepest ks F σ);
    steps = 1;
    few = omega arith;
    goes = goes_from h.comes closes;
    holds = record { next = h.next; comes = refl; starts = starts_among p deepest ks F b M n u (label [] None k ∷ K) K h.next σ refl h.starts; iterators = h.iterators; flows = h.flows };
  }
  block_ends lo u bk ct k K l Broke σ c h = record {
    conf = c;
    steps = 0;
    few = omega arith;
    goes = stays;
    holds = record { next = h.next; comes = h.comes; starts = starts_among p deepest ks F b M n u (label [] None k ∷ K) K h.next σ refl h.starts; iterators = h.iterators; flows = h.flows };
  }
  block_ends lo u bk ct k K l Continued σ c h = record {
    conf = c;
    steps = 0;
    few = omega arith;
    goes = stays;
    holds = record { next = h.next; comes = h.comes; starts = starts_among p deepest ks F b M n u (label [] None k ∷ K) K h.next σ refl h.starts; iterators = h.iterators; flows = h.flows };
  }

  -- one of two, by a truth
  pub one_way : (x : Bool) (w l : ℕ) (K : List Label) (L : List Cell) (A B : Instructions) (σ : State) (P : Flow → State → Conf → Type 0) (Q : Stop → State → Conf → Type 0) (m1 m2 : Execution Flow) →
      Reached p deepest ks F b M w l (at ks [] K L F A (beside_state p deepest ks F σ)) P Q (m1 σ) → Reached p deepest ks F b M w l (at ks [] K L F B (beside_state p deepest ks F σ)) P Q (m2 σ) →
      Reached p deepest ks F b M w l (at ks [] K L F (cond (nat_eq (flag_number x) 0) B A) (beside_state p deepest ks F σ)) P Q ((if x then m1 else m2) σ)
  one_way true w l K L A B σ P Q m1 m2 r1 r2 = r1
  one_way false w l K L A B σ P Q m1 m2 r1 r2 = r2

  -- a step in a block of its own
  pub inner_step : (x : Step) → StepOk p deepest ks F b M n x → (r lo : Bool) (u d bk ct w : ℕ) (k : Instructions) (K : List Label) (l l1 : Locals) (σ : State) →
      step_sorted (context p deepest ks F b M n) r lo x ≡ true → step_room x ≤ b.temporaries → u + step_iterators x ≤ b.iterators → step_arrays x ≤ b.arrays → step_work x ≤ M → step_work x + 1 ≤ w → ((y : ℕ) → l1.iterator y ≡ l.iterator y) → Starts p deepest ks F b M n u K l1 σ →
      Reached p deepest ks F b M w σ.turns (at ks [] (label [] None k ∷ K) (laid b l1) F (step_emitted (layout p deepest ks F b M n) x u (suc d) (suc bk) (suc ct) NoMore) (beside_state p deepest ks F σ)) (StepDone p deepest ks F b M n lo u bk ct k K l) (Away p deepest ks F b d K) (step_meant p deepest ks F b M n x u (suc d) (suc bk) (suc ct) NoMore σ)
  inner_step x ok r lo u d bk ct w k K l l1 σ so rm it ar wk le same s =
      let K1 = label [] None k ∷ K in
      within (machine p deepest ks F) M (step_work x + 1) w σ.turns _ (StepDone p deepest ks F b M n lo u bk ct k K l) (Away p deepest ks F b d K) (step_meant p deepest ks F b M n x u (suc d) (suc bk) (suc ct) NoMore σ) le
      (done_before p deepest ks F b M n (step_work x + 1) σ.turns lo u bk ct k K l l1 _ (Away p deepest ks F b d K) (step_meant p deepest ks F b M n x u (suc d) (suc bk) (suc ct) NoMore σ) same
      (blocked p deepest ks F b M (step_work x) σ.turns d k K _ (StepDone p deepest ks F b M n lo u (suc bk) (suc ct) NoMore K1 l1) (StepDone p deepest ks F b M n lo u bk ct k K l1) (step_meant p deepest ks F b M n x u (suc d) (suc bk) (suc ct) NoMore σ)
      (λ f τ c1 h. block_ends lo u bk ct k K l1 f τ c1 h)
      (ok r lo u (suc d) (suc bk) (suc ct) NoMore K1 l1 σ so rm it ar wk (starts_among p deepest ks F b M n u K K1 l1 σ refl s))))
