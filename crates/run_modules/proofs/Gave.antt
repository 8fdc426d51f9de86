-- A run over a host and its world is a run over the host's tables, and its output is what was given to the world.
use Rattle.std.proofs.Common.{◌≡◌, ◌∙◌, ℕ, zero, suc, Bool, true, false, List, [], ◌∷◌, ◌++◌, refl, sym, ap, subst}
use Rattle.wasm_store.specs.Memories.{MemoryForm}
use Rattle.wasm_model.specs.Hosts.{Meaning}
use Rattle.wasm_model.specs.Machines.{Asks, Conf, Ends, Goes, ProgramForm, Turn, turn}
use Rattle.wasm_model.specs.Runs.{OverBy, Ran, RefusedAs, Steps, TakenAs}
use Rattle.wasm_model.specs.MachineRuns.{Did}
use Rattle.wasm_model.specs.declared.ends.End.{End}
use Rattle.wasm_model.specs.declared.ends.MachineEnd.{MachineEnd}
use Rattle.wasm_model.specs.declared.ends.RunEnd.{RunEnd}
use Rattle.wasm_model.specs.declared.ends.RunEnd.TheVariants.{Ended, NoMemory, OutOfSteps}
use Rattle.wasm_machine.specs.StateStretches.{CalledLast}
use Rattle.world_core.specs.Traces.{Call, Trace, actions_of}
use Rattle.world_core.specs.WorldState.{Action}
use Rattle.world_core.proofs.TraceLemmas.{actions-append, targets-append, trace-append}
use Rattle.host_streams.specs.Given.{AreNamed, AreTargets, Gives}
use Rattle.host_streams.specs.declared.streams.NamedWriter.{NamedWriter}
use Rattle.host_streams.proofs.Given.{none_still}
use Rattle.host_streams.proofs.GivenTexts.{gives_still}
use Rattle.host_values.specs.FormMeaning.{FormState, Told, Untold, form_meaning}
use Rattle.host_calls.specs.Pauses.{keeps_fault, pauses}
use Rattle.host_calls.specs.Runs.{GaveTo, IfTold, Sight, given_meaning}
use Rattle.agreement.proofs.RunsLemmas.Carried.{over_untold, steps_untold}
use Rattle.run_modules.specs.ModuleRun.{IsGiven}

-- Calls that were made one after another.

gives_then : {W : Type 0} (did : W → Call → W → Type 0) (a b c : W) (ws ws1 ws2 : List NamedWriter) (xs ys : List Action) → Gives did a b ws ws1 xs
    → Gives did b c ws1 ws2 ys → Gives did a c ws ws2 (xs ++ ys)
gives_then did a b c ws ws1 ws2 xs ys x y = record {
  calls = x.calls ++ y.calls;
  made = trace-append did a x.calls b y.calls c x.made y.made;
  gives = λ targets are.
      actions-append x.calls y.calls targets
      ∙ ap (λ (rest : List Action). actions_of x.calls targets ++ rest) (y.gives _ (x.left targets are))
      ∙ ap (λ (front : List Action). front ++ ys) (x.gives targets are);
  left = λ targets are. subst (AreTargets ws2) (sym (targets-append x.calls y.calls targets)) (y.left _ (x.left targets are));
}

module _ {W : Type 0} (tells : Type 0) (did : W → Call → W → Type 0) where
  abbrev N : Meaning (Sight W) Action
  N = given_meaning tells did

  abbrev M : Meaning FormState Action
  M = form_meaning tells

  abbrev tables : Sight W → FormState
  tables h = h.tables

  -- The run over the tables.

  taken_form : (t : Turn) (h : Sight W) (mem : MemoryForm) (out : List Action) (c' : Conf) (h' : Sight W) → TakenAs N t h mem out c' h'
      → TakenAs M t h.tables mem out c' h'.tables
  taken_form (Goes c) h mem out c' h' r = (r.0, ap tables r.1, r.2)
  taken_form (Ends e) h mem out c' h' r = r
  taken_form (Asks i args c) h mem out c' h' r = (r.0, r.1.0, r.2)

  over_form : (t : Turn) (h : Sight W) (mem : MemoryForm) (out : List Action) (e : End) (h' : Sight W) → OverBy N t h mem out e h'
      → OverBy M t h.tables mem out e h'.tables
  over_form (Goes c) h mem out e h' r = r
  over_form (Ends x) h mem out e h' r = (r.0, ap tables r.1, r.2)
  over_form (Asks i args c) h mem out e h' r = (r.0, r.1, r.2, r.3.0)

  refused_form : (asked : Bool) (t : Turn) (h : Sight W) (mem : MemoryForm) (out : List Action) (h' : Sight W) → RefusedAs N asked t h mem out h'
      → RefusedAs M asked t h.tables mem out h'.tables
  refused_form false t h mem out h' r = (ap tables r.0, r.1)
  refused_form true (Goes c) h mem out h' r = r
  refused_form true (Ends e) h mem out h' r = r
  refused_form true (Asks i args c) h mem out h' r = (r.0, r.1, r.2.0, r.3)

  steps_form : (m : ProgramForm) (n : ℕ) (c : Conf) (h : Sight W) (out : List Action) (c' : Conf) (h' : Sight W) → Steps N m n c h out c' h'
      → Steps M m n c h.tables out c' h'.tables
  steps_form m zero c h out c' h' r = (r.0, ap tables r.1, r.2)
  steps_form m (suc n) c h out c' h' r =
      (r.0, r.1.tables, r.2, r.3, taken_form (turn m c) h c.memory r.2 r.0 r.1 r.4, steps_form m n r.0 r.1 r.3 c' h' r.5, r.6)

  pub ran_form : (m : ProgramForm) (n : ℕ) (c : Conf) (h : Sight W) (out : List Action) (e : RunEnd) (c' : Conf) (h' : Sight W) → Ran N m n c h out e c' h'
      → Ran M m n c h.tables out e c' h'.tables
  ran_form m n c h out OutOfSteps c' h' r = (steps_form m n c h out c' h' r.0, r.1)
  ran_form m n c h out (Ended e) c' h' r = (
    r.0,
    r.1,
    r.2,
    r.3.tables,
    r.4,
    r.5,
    steps_form m r.0 c h r.4 r.2 r.3 r.6,
    over_form (turn m r.2) r.3 r.2.memory r.5 e h' r.7,
    r.8,
  )
  ran_form m n c h out NoMemory c' h' r = (
    r.0,
    r.1,
    r.2,
    r.3.tables,
    r.4,
    r.5,
    r.6,
    steps_form m r.0 c h r.4 r.2 r.3 r.7,
    refused_form r.6 (turn m r.2) r.3 r.2.memory r.5 h' r.8,
    r.9,
  )

  abbrev pub did_form : (m : ProgramForm) (n : ℕ) (c : Conf) (h : Sight W) (e : MachineEnd) (c' : Conf) (h' : Sight W) → Did N m n c h e c' h'
      → Did M m n c h.tables e c' h'.tables
  did_form m n c h e c' h' d = (d.0, d.1, d.2, ran_form m n c h d.0 d.1 c' h' d.3)

  pub called_form : (m : ProgramForm) (n rest : ℕ) (c : Conf) (h : Sight W) (c' : Conf) (h' : Sight W) → CalledLast N m pauses n rest c h c' h'
      → CalledLast M m keeps_fault n rest c h.tables c' h'.tables
  called_form m n rest c h c' h' r = (
    r.0,
    r.1,
    r.2,
    r.3.tables,
    (r.4.0, r.4.1, r.4.2, steps_form m r.4.1 c h r.4.0 r.2 r.3 r.4.3),
    r.5,
    r.6,
    taken_form (turn m r.2) r.3 r.2.memory r.6 c' h' r.7,
  )

  -- What was given.

  abbrev Gave : Sight W → Sight W → List Action → Type 0
  Gave = GaveTo did

  still : (h h' : Sight W) (out : List Action) → h' ≡ h → out ≡ [] → Gave h h' out
  still h h' out same none = subst (λ (z : Sight W). Gave h z out) (sym same) (subst (Gave h h) (sym none) (by h.tables))
    where
      by : (f : FormState) → IfTold f (Gives did h.world h.world h.writers h.writers [])
      by (Told form) = gives_still did h.world h.world h.writers (none_still did h.world)
      by Untold = tt

  -- after a host of which nothing is told comes none of which something is
  gave_then : (a b c : Sight W) (xs ys : List Action) → (b.tables ≡ Untold → c.tables ≡ Untold) → Gave a b xs → Gave b c ys → Gave a c (xs ++ ys)
  gave_then a b c xs ys stays x y = by b.tables c.tables stays x y
    where
      by : (f g : FormState) → (f ≡ Untold → g ≡ Untold) → IfTold f (Gives did a.world b.world a.writers b.writers xs)
          → IfTold g (Gives did b.world c.world b.writers c.writers ys) → IfTold g (Gives did a.world c.world a.writers c.writers (xs ++ ys))
      by (Told f) (Told g) stays x y = gives_then did a.world b.world c.world a.writers b.writers c.writers xs ys x y
      by Untold (Told g) stays x y = let q : Told g ≡ Untold = stays refl in absurd cc
      by f Untold stays x y = tt

  taken_gave : (t : Turn) (h : Sight W) (mem : MemoryForm) (out : List Action) (c' : Conf) (h' : Sight W) → TakenAs N t h mem out c' h' → Gave h h' out
  taken_gave (Goes c) h mem out c' h' r = still h h' out r.1 r.2
  taken_gave (Ends e) h mem out c' h' r = absurd r
  taken_gave (Asks i args c) h mem out c' h' r = r.1.1

  over_gave : (t : Turn) (h : Sight W) (mem : MemoryForm) (out : List Action) (e : End) (h' : Sight W) → OverBy N t h mem out e h' → Gave h h' out
  over_gave (Goes c) h mem out e h' r = absurd r
  over_gave (Ends x) h mem out e h' r = still h h' out r.1 r.2
  over_gave (Asks i args c) h mem out e h' r = r.3.1

  refused_gave : (asked : Bool) (t : Turn) (h : Sight W) (mem : MemoryForm) (out : List Action) (h' : Sight W) → RefusedAs N asked t h mem out h' → Gave h h' out
  refused_gave false t h mem out h' r = still h h' out r.0 r.1
  refused_gave true (Goes c) h mem out h' r = absurd r
  refused_gave true (Ends e) h mem out h' r = absurd r
  refused_gave true (Asks i args c) h mem out h' r = r.2.1

  refused_untold : (asked : Bool) (t : Turn) (mem : MemoryForm) (out : List Action) (h' : FormState) → RefusedAs M asked t Untold mem out h' → h' ≡ Untold
  refused_untold false t mem out h' r = r.0
  refused_untold true (Goes c) mem out h' r = absurd r
  refused_untold true (Ends e) mem out h' r = absurd r
  refused_untold true (Asks i args c) mem out h' r = absurd r.2

  steps_gave : (m : ProgramForm) (n : ℕ) (c : Conf) (h : Sight W) (out : List Action) (c' : Conf) (h' : Sight W) → Steps N m n c h out c' h' → Gave h h' out
  steps_gave m zero c h out c' h' r = still h h' out r.1 r.2
  steps_gave m (suc n) c h out c' h' r =
      let rest = steps_form m n r.0 r.1 r.3 c' h' r.5 in
      subst (Gave h h') (sym r.6)
      (gave_then h r.1 h' r.2 r.3 (λ q. steps_untold tells m n r.0 r.3 c' h'.tables (subst (λ (f : FormState). Steps M m n r.0 f r.3 c' h'.tables) q rest))
      (taken_gave (turn m c) h c.memory r.2 r.0 r.1 r.4) (steps_gave m n r.0 r.1 r.3 c' h' r.5))

  ran_gave : (m : ProgramForm) (n : ℕ) (c : Conf) (h : Sight W) (out : List Action) (e : RunEnd) (c' : Conf) (h' : Sight W) → Ran N m n c h out e c' h' → Gave h h' out
  ran_gave m n c h out OutOfSteps c' h' r = steps_gave m n c h out c' h' r.0
  ran_gave m n c h out (Ended e) c' h' r =
      let last = over_form (turn m r.2) r.3 r.2.memory r.5 e h' r.7 in
      subst (Gave h h') (sym r.8)
      (gave_then h r.3 h' r.4 r.5 (λ q. over_untold tells (turn m r.2) r.2.memory r.5 e h'.tables
      (subst (λ (f : FormState). OverBy M (turn m r.2) f r.2.memory r.5 e h'.tables) q last))
      (steps_gave m r.0 c h r.4 r.2 r.3 r.6) (over_gave (turn m r.2) r.3 r.2.memory r.5 e h' r.7))
  ran_gave m n c h out NoMemory c' h' r =
      let last = refused_form r.6 (turn m r.2) r.3 r.2.memory r.5 h' r.8 in
      subst (Gave h h') (sym r.9)
      (gave_then h r.3 h' r.4 r.5 (λ q. refused_untold r.6 (turn m r.2) r.2.memory r.5 h'.tables
      (subst (λ (f : FormState). RefusedAs M r.6 (turn m r.2) f r.2.memory r.5 h'.tables) q last))
      (steps_gave m r.0 c h r.4 r.2 r.3 r.7) (refused_gave r.6 (turn m r.2) r.3 r.2.memory r.5 h' r.8))

  pub did_gave : (m : ProgramForm) (n : ℕ) (c : Conf) (h : Sight W) (e : MachineEnd) (c' : Conf) (h' : Sight W) (d : Did N m n c h e c' h') → Gave h h' d.0
  did_gave m n c h e c' h' d = ran_gave m n c h d.0 d.1 c' h' d.3

-- from the beginning, where no file is open for writing
pub is_given : {W : Type 0} (did : W → Call → W → Type 0) (old new last : W) (ws ws' : List NamedWriter) (output : List Action) → ws ≡ [] → last ≡ new
    → Gives did old new ws ws' output → IsGiven did old last output
is_given did old new last ws ws' output none same x = record {
  calls = x.calls;
  made = subst (Trace did old x.calls) (sym same) x.made;
  are = λ targets standard. x.gives targets (record { standard = standard; named = subst (λ (v : List NamedWriter). AreNamed v targets) (sym none) tt });
}

-- a world that is as it was
pub none_given : {W : Type 0} (did : W → Call → W → Type 0) (old new : W) → new ≡ old → IsGiven did old new []
none_given did old new same = record { calls = []; made = same; are = λ targets standard. refl }

-- Calls that are handed on to a world inside.

trace_inside : {V W : Type 0} (did : W → Call → W → Type 0) (inside : V → W) (old : V) (calls : List Call) (new : V)
    → Trace (λ a call b. did (inside a) call (inside b)) old calls new → Trace did (inside old) calls (inside new)
trace_inside did inside old [] new r = ap inside r
trace_inside did inside old (call ∷ calls) new r = (inside r.0, r.1, trace_inside did inside r.0 calls new r.2)

pub given_inside : {V W : Type 0} (did : W → Call → W → Type 0) (inside : V → W) (old new : V) (output : List Action)
    → IsGiven (λ a call b. did (inside a) call (inside b)) old new output → IsGiven did (inside old) (inside new) output
given_inside did inside old new output x = record { calls = x.calls; made = trace_inside did inside old x.calls new x.made; are = x.are }
