-- The simulation of steps: what a step's code does beside what the step means. Where a step begins, the function holds its parameters and an iterator for each loop over keys around the step,
-- and nothing else; where it ends in some way that does not leave the function, the same holds again.
use Rattle.std.proofs.Common.{◌≡◌, ℕ, ◌+◌, ◌<◌, ◌≤◌, Bool, true, false, List, [], length, ◌∙◌, refl, arith}
use Rattle.wasm_types.specs.Syntax.{Instructions}
use Rattle.mid_program.specs.Mid.{Kind, Program, Step, Eval, Block, If, Loop, Each, Break, Continue, Next, Exit, ExitWith, Return, Mark, Steps, NoStep, Then}
use Rattle.mid_program.specs.MidMeaning.{stepped}
use Rattle.sem_scripts.specs.ScriptState.{State, Execution}
use Rattle.mid_program.specs.Sorted.{There, calls_of, step_sorted, steps_sorted}
use Rattle.sem_scripts.specs.Statements.{Flow, Normal, Broke, Continued}
use Rattle.lower_model.specs.Cells.{IteratorOf}
use Rattle.lower_model.specs.Functions.{layout_of}
use Rattle.lower_model.specs.Machine.{Conf, Label, Frame, at, br, loops_walked}
use Rattle.lower_model.specs.Noted.{noted_called, step_noted, steps_noted}
use Rattle.lower_model.specs.Places.{Bases, step_room, steps_room, step_iterators, steps_iterators, step_arrays, steps_arrays}
use Rattle.lower_model.specs.Statements.{step_emitted, steps_emitted}
use Rattle.lower_model.proofs.Observer.{Observer}
use Rattle.lower_model.proofs.Locals.{Locals, laid}
use Rattle.lower_model.proofs.Relation.{Fit, Away}
use Rattle.lower_model.proofs.Answers.{beside_state, Reached}
use Rattle.lower_model.proofs.Simulation.{work_of, context, layout, Ready}

-- How many steps of the machine a step takes at most, beside those that turns pay.
abbrev mutual
  pub step_work : Step → ℕ
  step_work (Eval e) = 120 + work_of e
  step_work (Block ss) = 1 + steps_work ss
  step_work (If e x y) = 30 + (work_of e + (step_work x + step_work y))
  step_work (Loop first e x y) = 40 + (work_of e + (step_work x + step_work y))
  step_work (Each a e s) = 60 + (work_of e + step_work s)
  step_work Break = 2
  step_work Continue = 2
  step_work Next = 4
  step_work Exit = 4
  step_work (ExitWith e) = 30 + work_of e
  step_work (Return e) = 30 + work_of e
  step_work (Mark i c) = 2

  pub steps_work : Steps → ℕ
  steps_work NoStep = 0
  steps_work (Then s ss) = step_work s + steps_work ss

-- outside loops no step ends as `break` or `continue` does
abbrev pub FlowFits : Bool → Flow → Type 0
FlowFits true flow = Unit {0}
FlowFits false Normal = Unit {0}
FlowFits false Broke = ⊥
FlowFits false Continued = ⊥

pub flows_on : (looping : Bool) → FlowFits looping Normal
flows_on true = tt
flows_on false = tt

-- where a step leads, by how it ends
abbrev pub flow_at : Flow → Conf → Conf → Conf → Conf
flow_at Normal on broke continued = on
flow_at Broke on broke continued = broke
flow_at Continued on broke continued = continued

module _ (p : Program) (deepest : Observer) (ks : List Kind) (F : List Frame) (b : Bases) (M n : ℕ) where
  -- what steps mean, with n more calls inside one another
  abbrev pub step_meant : Step → (u d bk ct : ℕ) → Instructions → Execution Flow
  step_meant s u d bk ct k = step_noted deepest.notes (layout_of p b) p.texts (calls_of p) n (noted_called deepest.notes p n) s u d bk ct k

  abbrev pub steps_meant : Steps → (u d bk ct : ℕ) → Instructions → Execution Flow
  steps_meant ss u d bk ct k = steps_noted deepest.notes (layout_of p b) p.texts (calls_of p) n (noted_called deepest.notes p n) ss u d bk ct k

  -- what a step that has no others in it means once its place is noted
  abbrev pub plain_meant : Step → Execution Flow
  plain_meant s = stepped p.texts (calls_of p) n (noted_called deepest.notes p n) s

  -- u loops over keys are walked, and each has its iterator
  abbrev pub Walked : ℕ → Locals → Type 0
  Walked u l = (x : ℕ) → x < u → (t : ℕ) × (l.iterator x ≡ IteratorOf t)

  -- where a step begins, among labels K
  pub record Starts (u : ℕ) (K : List Label) (l : Locals) (σ : State) : Type 0 where
    pub fit : Fit p deepest ks F 0 u 0 l σ
    pub walked : Walked u l
    pub walks : u ≤ b.iterators
    pub loops : loops_walked K ≡ u
    pub turns : σ.turns ≤ n
    pub parameters : length ks ≡ b.parameters

  -- an expression of a step keeps nothing that was there before
  pub ready : (u : ℕ) (K : List Label) (l : Locals) (σ : State) → Starts u K l σ → Ready p deepest ks F b M n [] tt [] (λ i. There) 0 u 0 (loops_walked K) l σ
  ready u K l σ s = record { below = tt; kept = tt; fit = s.fit; turns = s.turns; parameters = s.parameters; plain = λ i. tt; walking = record { loops = s.loops; few = s.walks; each = s.walked }; none = refl }

  -- a step begins later, among labels with as many loops over keys
  pub starts_after : (u : ℕ) (K K1 : List Label) (l l1 : Locals) (σ σ1 : State) → Starts u K l σ → loops_walked K1 ≡ loops_walked K → σ1.turns ≤ σ.turns → ((x : ℕ) → l1.iterator x ≡ l.iterator x) → Fit p deepest ks F 0 u 0 l1 σ1 → Starts u K1 l1 σ1
  starts_after u K K1 l l1 σ σ1 s e le same fit = record {
    fit = fit;
    walked = λ x lt. let q = s.walked x lt in (q.0, same x ∙ q.1);
    walks = s.walks;
    loops = e ∙ s.loops;
    turns = let q = s.turns in omega (arith, le, q);
    parameters = s.parameters;
  }

  pub starts_among : (u : ℕ) (K K1 : List Label) (l : Locals) (σ : State) → loops_walked K1 ≡ loops_walked K → Starts u K l σ → Starts u K1 l σ
  starts_among u K K1 l σ e s = record { fit = s.fit; walked = s.walked; walks = s.walks; loops = e ∙ s.loops; turns = s.turns; parameters = s.parameters }

  -- the machine is at code k among labels K, and iterators are as in l
  pub record Here (k : Instructions) (K : List Label) (u : ℕ) (l : Locals) (σ : State) (c : Conf) : Type 0 where
    pub next : Locals
    pub comes : c ≡ at ks [] K (laid b next) F k (beside_state p deepest ks F σ)
    pub starts : Starts u K next σ
    pub iterators : (x : ℕ) → next.iterator x ≡ l.iterator x

  -- after a step, which ended in this way
  pub record StepDone (looping : Bool) (u bk ct : ℕ) (k : Instructions) (K : List Label) (l : Locals) (flow : Flow) (σ : State) (c : Conf) : Type 0 where
    pub next : Locals
    pub comes : c ≡ flow_at flow (at ks [] K (laid b next) F k (beside_state p deepest ks F σ)) (br bk ks K (laid b next) F (beside_state p deepest ks F σ)) (br ct ks K (laid b next) F (beside_state p deepest ks F σ))
    pub starts : Starts u K next σ
    pub iterators : (x : ℕ) → next.iterator x ≡ l.iterator x
    pub flows : FlowFits looping flow

  -- a step does what it means
  abbrev pub StepOk : Step → Type 0
  StepOk s = (returning looping : Bool) (u d bk ct : ℕ) (k : Instructions) (K : List Label) (l : Locals) (σ : State) →
      step_sorted (context p deepest ks F b M n) returning looping s ≡ true → step_room s ≤ b.temporaries → u + step_iterators s ≤ b.iterators → step_arrays s ≤ b.arrays → step_work s ≤ M → Starts u K l σ →
      Reached p deepest ks F b M (step_work s) σ.turns (at ks [] K (laid b l) F (step_emitted (layout p deepest ks F b M n) s u d bk ct k) (beside_state p deepest ks F σ)) (StepDone looping u bk ct k K l) (Away p deepest ks F b d K) (step_meant s u d bk ct k σ)

  abbrev pub StepsOk : Steps → Type 0
  StepsOk ss = (returning looping : Bool) (u d bk ct : ℕ) (k : Instructions) (K : List Label) (l : Locals) (σ : State) →
      steps_sorted (context p deepest ks F b M n) returning looping ss ≡ true → steps_room ss ≤ b.temporaries → u + steps_iterators ss ≤ b.iterators → steps_arrays ss ≤ b.arrays → steps_work ss ≤ M → Starts u K l σ →
      Reached p deepest ks F b M (steps_work ss) σ.turns (at ks [] K (laid b l) F (steps_emitted (layout p deepest ks F b M n) ss u d bk ct k) (beside_state p deepest ks F σ)) (StepDone looping u bk ct k K l) (Away p deepest ks F b d K) (steps_meant ss u d bk ct k σ)
