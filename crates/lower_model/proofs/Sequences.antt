-- Steps one after another, and expressions that are evaluated for what they do alone.
use Rattle.std.proofs.Common.{◌≡◌, ℕ, zero, ◌+◌, ◌≤◌, Bool, true, List, [], refl, ◌∙◌, arith}
use Rattle.std.proofs.lemmas.Bool.{and_parts}
use Rattle.wasm_types.specs.Syntax.{Instructions}
use Rattle.mid_program.specs.Mid.{Kind, Program, Code, Step, Eval, Block, Steps, NoStep, Then, form_of}
use Rattle.mid_program.specs.MidMeaning.{stepped}
use Rattle.sem_scripts.specs.ScriptState.{State, Stop, Outcome, Execution}
use Rattle.mid_program.specs.Sorted.{There, sorted, step_sorted, steps_sorted}
use Rattle.sem_scripts.specs.Statements.{Flow, Normal, Broke, Continued, after}
use Rattle.lower_model.specs.Emission.{left_over, dropped}
use Rattle.lower_model.specs.Machine.{Conf, Label, Frame, at}
use Rattle.lower_model.specs.Noted.{step_noted, steps_noted}
use Rattle.lower_model.specs.Places.{Bases, room, arrays_in}
use Rattle.lower_model.specs.Statements.{step_emitted, steps_emitted}
use Rattle.lower_model.proofs.Observer.{Observer}
use Rattle.lower_model.proofs.Runs.{stays, goes_from, first, then_on, there, weaker}
use Rattle.lower_model.proofs.Locals.{Locals, laid}
use Rattle.lower_model.proofs.Relation.{Away}
use Rattle.lower_model.proofs.Answers.{machine, beside_state, Reached}
use Rattle.lower_model.proofs.Simulation.{work_of, context, layout, meant, Done, ExprOk, room_one}
use Rattle.lower_model.proofs.Keeping.{left_ok}
use Rattle.lower_model.proofs.StatementForms.{step_work, steps_work, flows_on, step_meant, steps_meant, plain_meant, Starts, ready, starts_after, StepDone, StepOk, StepsOk}
use Rattle.lower_model.proofs.Tidy.{begun_step}

module _ (p : Program) (deepest : Observer) (ks : List Kind) (F : List Frame) (b : Bases) (M n : ℕ) where
  -- an expression for what it does alone
  pub dropped_ok : (e : Code) → ExprOk p deepest ks F b M n e → (lo : Bool) (u d bk ct : ℕ) (k : Instructions) (K : List Label) (l : Locals) (σ : State) → sorted (context p deepest ks F b M n) [] e ≡ true → room e ≤ b.temporaries → arrays_in e ≤ b.arrays → Starts p deepest ks F b M n u K l σ →
      Reached p deepest ks F b M (work_of e + 8) σ.turns (at ks [] K (laid b l) F (dropped (layout p deepest ks F b M n) [] [] e zero zero d k) (beside_state p deepest ks F σ)) (StepDone p deepest ks F b M n lo u bk ct k K l) (Away p deepest ks F b d K) (plain_meant p deepest ks F b M n (Eval e) σ)
  unfolding stepped
  dropped_ok e ok lo u d bk ct k K l σ so rm ar s =
      let mach = machine p deepest ks F in
      let Q = Away p deepest ks F b d K in
      let P = StepDone p deepest ks F b M n lo u bk ct k K l in
      let k1 = left_over (layout p deepest ks F b M n) e (form_of [] e) zero k in
      let r1 = room_one e in
      then_on mach M (work_of e) 8 (work_of e + 8) σ.turns _ (Done p deepest ks F b M n true e [] tt [] (λ i. There) zero u zero k1 K l σ) P Q (meant p deepest ks F b M n [] tt e σ) _ (omega arith)
      (ok true [] tt [] (λ i. There) zero u zero d k1 K l σ so (λ i lt. absurd (omega (arith, lt))) (omega (arith, rm)) (omega (arith, ar)) (ready p deepest ks F b M n u K l σ s))
      (λ x τ c1 le h.
      let g = left_ok p deepest ks F b M n e (form_of [] e) x zero u zero k K h.next τ (omega (arith, rm, r1)) h.fit h.stands in
      let same : (y : ℕ) → g.next.iterator y ≡ l.iterator y = λ y. g.keeps.iterators y ∙ h.same.iterators y in
      there mach M 8 g.steps c1 _ Normal τ P Q (goes_from h.comes g.goes) (omega (arith, g.few))
      (record { next = g.next; comes = refl; starts = starts_after p deepest ks F b M n u K K l g.next σ τ s refl le same g.fit; iterators = same; flows = flows_on lo }))

  -- what was done before changes nothing of what is said after
  pub done_before : (w m : ℕ) (lo : Bool) (u bk ct : ℕ) (k : Instructions) (K : List Label) (l l1 : Locals) (c : Conf) (Q : Stop → State → Conf → Type 0) (r : Outcome Flow) → ((x : ℕ) → l1.iterator x ≡ l.iterator x) →
      Reached p deepest ks F b M w m c (StepDone p deepest ks F b M n lo u bk ct k K l1) Q r → Reached p deepest ks F b M w m c (StepDone p deepest ks F b M n lo u bk ct k K l) Q r
  done_before w m lo u bk ct k K l l1 c Q r same a =
      weaker (machine p deepest ks F) M w m c (StepDone p deepest ks F b M n lo u bk ct k K l1) (StepDone p deepest ks F b M n lo u bk ct k K l) Q Q r
      (λ f σ c1 h. record { next = h.next; comes = h.comes; starts = h.starts; iterators = λ x. h.iterators x ∙ same x; flows = h.flows }) (λ why σ c1 q. q) a

  -- a step that jumped is done whatever comes after it
  jumped : (w : ℕ) (lo : Bool) (u bk ct : ℕ) (k1 k : Instructions) (K : List Label) (l : Locals) (Q : Stop → State → Conf → Type 0) (f : Flow) (σ : State) (c : Conf) (rest : Execution Flow) → StepDone p deepest ks F b M n lo u bk ct k1 K l f σ c →
      ((l1 : Locals) → c ≡ at ks [] K (laid b l1) F k1 (beside_state p deepest ks F σ) → Starts p deepest ks F b M n u K l1 σ → ((x : ℕ) → l1.iterator x ≡ l.iterator x) → Reached p deepest ks F b M w σ.turns c (StepDone p deepest ks F b M n lo u bk ct k K l) Q (rest σ)) →
      Reached p deepest ks F b M w σ.turns c (StepDone p deepest ks F b M n lo u bk ct k K l) Q (after f rest σ)
  jumped w lo u bk ct k1 k K l Q Normal σ c rest h a = a h.next h.comes h.starts h.iterators
  jumped w lo u bk ct k1 k K l Q Broke σ c rest h a =
      there (machine p deepest ks F) M w 0 c c Broke σ (StepDone p deepest ks F b M n lo u bk ct k K l) Q stays (omega arith) (record { next = h.next; comes = h.comes; starts = h.starts; iterators = h.iterators; flows = h.flows })
  jumped w lo u bk ct k1 k K l Q Continued σ c rest h a =
      there (machine p deepest ks F) M w 0 c c Continued σ (StepDone p deepest ks F b M n lo u bk ct k K l) Q stays (omega arith) (record { next = h.next; comes = h.comes; starts = h.starts; iterators = h.iterators; flows = h.flows })

  pub no_steps : StepsOk p deepest ks F b M n NoStep
  unfolding step_emitted steps_emitted step_noted steps_noted step_sorted steps_sorted
  no_steps r lo u d bk ct k K l σ so rm it ar wk s =
      there (machine p deepest ks F) M 0 0 _ _ Normal σ (StepDone p deepest ks F b M n lo u bk ct k K l) (Away p deepest ks F b d K) stays (omega arith)
      (record { next = l; comes = refl; starts = s; iterators = λ x. refl; flows = flows_on lo })

  pub then_steps : (x : Step) (ss : Steps) → StepOk p deepest ks F b M n x → StepsOk p deepest ks F b M n ss → StepsOk p deepest ks F b M n (Then x ss)
  unfolding step_emitted steps_emitted step_noted steps_noted step_sorted steps_sorted
  then_steps x ss okx oks r lo u d bk ct k K l σ so rm it ar wk s =
      let mach = machine p deepest ks F in
      let ctx = context p deepest ks F b M n in
      let Q = Away p deepest ks F b d K in
      let P = StepDone p deepest ks F b M n lo u bk ct k K l in
      let k1 = steps_emitted (layout p deepest ks F b M n) ss u d bk ct k in
      let s1 = and_parts (step_sorted ctx r lo x) (steps_sorted ctx r lo ss) so in
      then_on mach M (step_work x) (steps_work ss) (step_work x + steps_work ss) σ.turns _ (StepDone p deepest ks F b M n lo u bk ct k1 K l) P Q (step_meant p deepest ks F b M n x u d bk ct k1 σ) _ (omega arith)
      (okx r lo u d bk ct k1 K l σ s1.0 (omega (arith, rm)) (omega (arith, it)) (omega (arith, ar)) (omega (arith, wk)) s)
      (λ f τ c1 le h. jumped (steps_work ss) lo u bk ct k1 k K l Q f τ c1 (steps_meant p deepest ks F b M n ss u d bk ct k) h
      (λ l1 e s2 same. first mach M 0 (steps_work ss) (steps_work ss) τ.turns c1 _ P Q _ (record { it = e }) (omega arith)
      (done_before (steps_work ss) τ.turns lo u bk ct k K l l1 _ Q _ same
      (oks r lo u d bk ct k K l1 τ s1.1 (omega (arith, rm)) (omega (arith, it)) (omega (arith, ar)) (omega (arith, wk)) s2))))

  pub block_step : (ss : Steps) → StepsOk p deepest ks F b M n ss → StepOk p deepest ks F b M n (Block ss)
  unfolding step_emitted steps_emitted step_noted steps_noted step_sorted steps_sorted
  block_step ss oks r lo u d bk ct k K l σ so rm it ar wk s =
      begun_step p deepest ks F b M n _ (steps_work ss) (1 + steps_work ss) u K l σ (StepDone p deepest ks F b M n lo u bk ct k K l) (Away p deepest ks F b d K) (steps_meant p deepest ks F b M n ss u d bk ct k) (omega arith) s
      (λ τ s1. oks r lo u d bk ct k K l τ so rm it ar (omega (arith, wk)) s1)
