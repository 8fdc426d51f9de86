-- Runs of a host that is told by its tables are runs of a host that has states, one of which is shown after each call.
use Rattle.std.proofs.Common.{◌≡◌, ◌≢◌, ℕ, zero, suc, List, [], ◌++◌, refl, sym, ap, ◌∙◌, subst, append-nil, append_assoc}
use Rattle.wasm_store.specs.Memories.{MemoryForm}
use Rattle.wasm_store.specs.declared.word.Word.{Word}
use Rattle.wasm_model.specs.Hosts.{Meaning}
use Rattle.wasm_model.specs.Machines.{Asks, Conf, Ends, Goes, ProgramForm, Turn, turn}
use Rattle.wasm_model.specs.Runs.{OverBy, Ran, Steps, TakenAs}
use Rattle.wasm_model.specs.declared.host.HostAnswer.{HostAnswer}
use Rattle.wasm_model.specs.declared.host.HostAnswer.TheVariants as told
use Rattle.wasm_model.specs.declared.ends.End.{End}
use Rattle.wasm_model.specs.declared.ends.RunEnd.{RunEnd}
use Rattle.wasm_model.specs.declared.ends.RunEnd.TheVariants.{Ended, NoMemory, OutOfSteps}
use Rattle.world_core.specs.WorldState.{Action}
use Rattle.host_step.specs.HostState.{HostState}
use Rattle.host_values.specs.Forms.{HostForm}
use Rattle.host_values.specs.FormMeaning.{FormState, Told, Untold, form_meaning}

-- After a host of which nothing is told none is told.

pub same_state : (f f' : HostForm) → Told f' ≡ Told f → f' ≡ f
same_state f f' e = cc

module _ (tells : Type 0) where
  abbrev M : Meaning FormState Action
  M = form_meaning tells

  taken_untold : (t : Turn) (mem : MemoryForm) (output : List Action) (c1 : Conf) (h1 : FormState) → TakenAs M t Untold mem output c1 h1 → h1 ≡ Untold
  taken_untold (Goes c) mem output c1 h1 r = r.1
  taken_untold (Ends e) mem output c1 h1 r = absurd r
  taken_untold (Asks i args c) mem output c1 h1 r = absurd r.1

  pub steps_untold : (m : ProgramForm) (n : ℕ) (c : Conf) (output : List Action) (c1 : Conf) (h1 : FormState) → Steps M m n c Untold output c1 h1 → h1 ≡ Untold
  steps_untold m zero c output c1 h1 r = r.1
  steps_untold m (suc n) c output c1 h1 r =
      let e = taken_untold (turn m c) c.memory r.2 r.0 r.1 r.4 in
      steps_untold m n r.0 r.3 c1 h1 (subst (λ (h : FormState). Steps M m n r.0 h r.3 c1 h1) e r.5)

  pub over_untold : (t : Turn) (mem : MemoryForm) (output : List Action) (e : End) (h1 : FormState) → OverBy M t Untold mem output e h1 → h1 ≡ Untold
  over_untold (Goes c) mem output e h1 r = absurd r
  over_untold (Ends x) mem output e h1 r = r.1
  over_untold (Asks i args c) mem output e h1 r = absurd r.3

-- Another meaning, of states of which one is shown after so much output: it follows each call that wants no memory.
module _ (tells : Type 0) (N : Meaning HostState Action) (Shows : List Action → HostForm → HostState → Type 0)
    (follows : (f f1 : HostForm) (n : ℕ) (words : List Word) (mem : MemoryForm) (a : HostAnswer) (mem1 : MemoryForm) (output so_far : List Action) (s : HostState)
    → a ≢ told.NoMemory → form_meaning tells (Told f) n words mem a (Told f1) mem1 output → Shows so_far f s
    → (s1 : HostState) × Shows (so_far ++ output) f1 s1 × N s n words mem a s1 mem1 output) where
  abbrev FM : Meaning FormState Action
  FM = form_meaning tells

  unchanged : (f f1 : HostForm) (so_far output : List Action) (s : HostState) → Told f1 ≡ Told f → output ≡ [] → Shows so_far f s → Shows (so_far ++ output) f1 s
  unchanged f f1 so_far output s e n h =
      subst (λ (o : List Action). Shows (so_far ++ o) f1 s) (sym n)
      (subst (λ (o : List Action). Shows o f1 s) (sym (append-nil so_far)) (subst (λ (z : HostForm). Shows so_far z s) (sym (same_state f f1 e)) h))

  longer : (f : HostForm) (s : HostState) (so_far out1 out2 output : List Action) → output ≡ out1 ++ out2 → Shows ((so_far ++ out1) ++ out2) f s
      → Shows (so_far ++ output) f s
  longer f s so_far out1 out2 output e h =
      subst (λ (o : List Action). Shows o f s) (append_assoc so_far out1 out2 ∙ ap (λ (o : List Action). so_far ++ o) (sym e)) h

  -- a step
  pub step_carried : (t : Turn) (f f1 : HostForm) (mem : MemoryForm) (output so_far : List Action) (c1 : Conf) (s : HostState) → Shows so_far f s
      → TakenAs FM t (Told f) mem output c1 (Told f1) → (s1 : HostState) × Shows (so_far ++ output) f1 s1 × TakenAs N t s mem output c1 s1
  step_carried (Goes c) f f1 mem output so_far c1 s h r = (s, unchanged f f1 so_far output s r.1 r.2 h, (r.0, refl, r.2))
  step_carried (Ends e) f f1 mem output so_far c1 s h r = absurd r
  step_carried (Asks n ws c) f f1 mem output so_far c1 s h r =
      let x = follows f f1 n ws mem (told.Done r.0) c1.memory output so_far s (λ q. cc) r.1 h in
      (x.0, x.1, (r.0, x.2, r.2))

  -- the last turn
  pub end_carried : (t : Turn) (f f1 : HostForm) (mem : MemoryForm) (output so_far : List Action) (e : End) (s : HostState) → Shows so_far f s
      → OverBy FM t (Told f) mem output e (Told f1) → (s1 : HostState) × Shows (so_far ++ output) f1 s1 × OverBy N t s mem output e s1
  end_carried (Goes c) f f1 mem output so_far e s h r = absurd r
  end_carried (Ends x) f f1 mem output so_far e s h r = (s, unchanged f f1 so_far output s r.1 r.2 h, (r.0, refl, r.2))
  end_carried (Asks n ws c) f f1 mem output so_far e s h r =
      let x = follows f f1 n ws mem (told.Trap r.0) r.1 output so_far s (λ q. cc) r.3 h in
      (x.0, x.1, (r.0, r.1, r.2, x.2))

  pub record StepsTo (m : ProgramForm) (n : ℕ) (c : Conf) (s : HostState) (so_far output : List Action) (c1 : Conf) (f1 : HostForm) : Type 0 where
    pub state : HostState
    pub shows : Shows (so_far ++ output) f1 state
    pub steps : Steps N m n c s output c1 state

  pub steps_carried : (m : ProgramForm) (n : ℕ) (c : Conf) (f : HostForm) (output : List Action) (c1 : Conf) (f1 : HostForm) (so_far : List Action) (s : HostState)
      → Shows so_far f s → Steps FM m n c (Told f) output c1 (Told f1) → StepsTo m n c s so_far output c1 f1
  steps_carried m zero c f output c1 f1 so_far s h r =
      record { state = s; shows = unchanged f f1 so_far output s r.1 r.2 h; steps = (r.0, refl, r.2) }
  steps_carried m (suc n) c f output c1 f1 so_far s h r = by r.1 r.4 r.5 (λ f2 so s2. steps_carried m n r.0 f2 r.3 c1 f1 so s2)
    where
      by : (h1 : FormState) → TakenAs FM (turn m c) (Told f) c.memory r.2 r.0 h1 → Steps FM m n r.0 h1 r.3 c1 (Told f1)
          → ((f2 : HostForm) (so : List Action) (s2 : HostState) → Shows so f2 s2 → Steps FM m n r.0 (Told f2) r.3 c1 (Told f1) → StepsTo m n r.0 s2 so r.3 c1 f1)
          → StepsTo m (suc n) c s so_far output c1 f1
      by Untold t rest more = absurd (never (steps_untold tells m n r.0 r.3 c1 (Told f1) rest))
        where
          never : Told f1 ≡ Untold → ⊥
          never q = cc
      by (Told f2) t rest more =
          let x = step_carried (turn m c) f f2 c.memory r.2 so_far r.0 s h t in
          let y = more f2 (so_far ++ r.2) x.0 x.1 rest in
          record {
            state = y.state;
            shows = longer f1 y.state so_far r.2 r.3 output r.6 y.shows;
            steps = (r.0, x.0, r.2, r.3, x.2, y.steps, r.6);
          }

  -- A RUN that does not want memory
  pub record RunsTo (m : ProgramForm) (n : ℕ) (c : Conf) (s : HostState) (so_far output : List Action) (r : RunEnd) (c1 : Conf) (f1 : HostForm) : Type 0 where
    pub state : HostState
    pub shows : Shows (so_far ++ output) f1 state
    pub ran : Ran N m n c s output r c1 state

  module _ (m : ProgramForm) (n : ℕ) (c : Conf) (f : HostForm) (output : List Action) (c1 : Conf) (f1 : HostForm) (so_far : List Action) (s : HostState)
      (now : Shows so_far f s) where
    pub run_carried : (r : RunEnd) → r ≢ NoMemory → Ran FM m n c (Told f) output r c1 (Told f1) → RunsTo m n c s so_far output r c1 f1
    run_carried NoMemory ne r = absurd (ne refl)
    run_carried OutOfSteps ne r =
        let x = steps_carried m n c f output c1 f1 so_far s now r.0 in
        record { state = x.state; shows = x.shows; ran = (x.steps, r.1) }
    run_carried (Ended e) ne r = by r.3 r.6 r.7
      where
        by : (h1 : FormState) → Steps FM m r.0 c (Told f) r.4 r.2 h1 → OverBy FM (turn m r.2) h1 r.2.memory r.5 e (Told f1) → RunsTo m n c s so_far output (Ended e) c1 f1
        by Untold steps over = absurd (never (over_untold tells (turn m r.2) r.2.memory r.5 e (Told f1) over))
          where
            never : Told f1 ≡ Untold → ⊥
            never q = cc
        by (Told f2) steps over =
            let x = steps_carried m r.0 c f r.4 r.2 f2 so_far s now steps in
            let y = end_carried (turn m r.2) f2 f1 r.2.memory r.5 (so_far ++ r.4) e x.state x.shows over in
            record {
              state = y.0;
              shows = longer f1 y.0 so_far r.4 r.5 output r.8 y.1;
              ran = (r.0, r.1, r.2, x.state, r.4, r.5, x.steps, y.2, r.8);
            }
