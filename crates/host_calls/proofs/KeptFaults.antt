-- A fault that a host keeps stays.
use Rattle.std.proofs.Common.{◌≡◌, ℕ, zero, suc, Bool, true, false, cond, not, ◌&&◌, List, [], ◌++◌, Option, Some, None, is_some, refl, sym, ap, subst, ◌∙◌}
use Rattle.awk_values.specs.declared.fault.Fault.{Fault}
use Rattle.sem_primitives.specs.Sorts.{InAnswer}
use Rattle.world_core.specs.WorldState.{Action, Entry, Outside, after as outside_after}
use Rattle.wasm_store.specs.Memories.{MemoryForm}
use Rattle.wasm_store.specs.declared.word.Word.{Word}
use Rattle.wasm_model.specs.Hosts.{Meaning}
use Rattle.wasm_model.specs.Machines.{Asks, Conf, Ends, Goes, ProgramForm, Turn, turn}
use Rattle.wasm_model.specs.Runs.{Steps, TakenAs}
use Rattle.wasm_model.specs.declared.host.HostAnswer.{HostAnswer}
use Rattle.wasm_model.specs.declared.host.HostAnswer.TheVariants as told
use Rattle.host_imports.specs.Imports.{import_answer, import_at, lets_go}
use Rattle.host_imports.specs.FaultColumns.{can_fault}
use Rattle.host_imports.specs.declared.import.Import.{Import}
use Rattle.host_imports.specs.declared.import.Import.TheVariants.{OfPrimitive, Variadic, Arg, Drop, IterFree, FreeArray}
use Rattle.host_step.specs.HostState.{HostState}
use Rattle.host_step.specs.HostStep.{Comes, Refuses, StepBy, StepIf, StepOf, carried, come, comes, refuses}
use Rattle.host_step.proofs.Columns.{no_fault}
use Rattle.host_values.specs.FormMeaning.{FindsSo, FormCalled, FormState, Told, Untold, form_meaning}
use Rattle.host_values.specs.Forms.{HostForm, state_of}
use Rattle.host_values.specs.Findings.{IsFound, form_finding}
use Rattle.host_values.specs.Shown.{SharesBy, Shown}
use Rattle.host_values.proofs.Found.{none_left}
use Rattle.host_values.proofs.Showing.{shown_fault}

-- Calls. One that lets something go keeps no fault of its own; every other one is refused.

letting_cannot : (i : Import) → lets_go i ≡ true → can_fault i ≡ false
letting_cannot (OfPrimitive p) e = cc
letting_cannot (Variadic l) e = cc
letting_cannot Arg e = cc
letting_cannot Drop e = refl
letting_cannot IterFree e = refl
letting_cannot FreeArray e = refl

fault_in : (s t : HostState) → s ≡ t → s.fault ≡ t.fault
fault_in s t e = ap (λ (z : HostState). z.fault) e

-- a call, where a fault is kept
module _ (i : Import) (words : List Word) (memory : List ℕ) (s : HostState) (fault : Fault) (kept : s.fault ≡ Some fault) where
  abbrev Come : Type 0
  Come = Comes (InAnswer (import_answer i))

  comes_refused : lets_go i ≡ false → comes i words memory s ≡ Refuses
  comes_refused keeps =
      let so : refuses i s.fault ≡ true = ap (λ (o : Option Fault). is_some o && not (lets_go i)) kept ∙ ap not keeps in
      ap (λ (b : Bool). cond b Refuses (come (carried i words memory s))) so

  step_stays : (a : HostAnswer) (s1 : HostState) (output : List Action) → StepOf i s words memory a s1 output → s1.fault ≡ Some fault
  step_stays a s1 output h = by (lets_go i) refl
    where
      by : (b : Bool) → lets_go i ≡ b → s1.fault ≡ Some fault
      by true goes = no_fault i s words memory a s1 output (letting_cannot i goes) h ∙ kept
      by false keeps =
          let refused : StepBy (import_answer i) s Refuses a s1 output =
          subst (λ (c : Come). StepBy (import_answer i) s c a s1 output) (comes_refused keeps) h in
          fault_in s1 s refused.state ∙ kept

call_stays : (o : Option Import) (s : HostState) (words : List Word) (memory : List ℕ) (a : HostAnswer) (s1 : HostState) (output : List Action) (fault : Fault)
    → StepIf o s words memory a s1 output → s.fault ≡ Some fault → s1.fault ≡ Some fault
call_stays None s words memory a s1 output fault h kept = fault_in s1 s h.state ∙ kept
call_stays (Some i) s words memory a s1 output fault h kept = step_stays i words memory s fault kept a s1 output h

-- Runs.

-- Tables that show a state in an environment that others change too, whatever is found later.
record ShowsOne (f : HostForm) (later : List Entry) : Type 0 where
  pub finds : List Entry
  pub left : IsFound f.fault [] later finds
  pub outside : Outside
  pub so_far : List Action
  pub state : HostState
  pub shown : Shown (form_finding finds outside so_far f) state

abbrev Shows : HostForm → Type 0
Shows f = (later : List Entry) → ShowsOne f later

finds_too : (f : HostForm) (s : HostState) → Shown f s → Shows f
finds_too f s h later = record {
  finds = later;
  left = none_left f.fault later;
  outside = f.shared.outside;
  so_far = [];
  state = state_of (form_finding later f.shared.outside [] h.form) h.stands.past;
  shown = record {
    form = form_finding later f.shared.outside [] h.form;
    same = by f.fault h.same;
    stands = record { past = h.stands.past; state = refl; arrays = h.stands.arrays; iterators = h.stands.iterators; first = h.stands.first };
  };
}
  where
    by : (o : Option Fault) → SharesBy o h.form f
        → SharesBy o (form_finding later f.shared.outside [] h.form) (form_finding later f.shared.outside [] f)
    by None same = ap (form_finding later f.shared.outside []) same
    by (Some fault) same = record {
      values = same.values;
      arrays = same.arrays;
      iterators = same.iterators;
      fault = same.fault;
      outside = refl;
      output = refl;
    }

found_first : (o : Option Fault) (a later finds : List Entry) → IsFound o [] (a ++ later) finds → IsFound o a later finds
found_first None a later finds e = e
found_first (Some fault) a later finds e = tt

-- later tables show a state, and keep the fault that was kept
record Stays (f f1 : HostForm) : Type 0 where
  pub shows : Shows f1
  pub kept : (fault : Fault) → f.fault ≡ Some fault → f1.fault ≡ Some fault

same_form : (f f1 : HostForm) → Told f1 ≡ Told f → f1 ≡ f
same_form f f1 e = cc

never : (f : HostForm) → Told f ≡ Untold → ⊥
never f e = cc

unmoved : (f f1 : HostForm) → Shows f → Told f1 ≡ Told f → Stays f f1
unmoved f f1 shows e = record {
  shows = subst (λ (z : HostForm). Shows z) (sym (same_form f f1 e)) shows;
  kept = λ fault kept. ap (λ (z : HostForm). z.fault) (same_form f f1 e) ∙ kept;
}

stays_on : (f f1 f2 : HostForm) → Stays f f1 → Stays f1 f2 → Stays f f2
stays_on f f1 f2 x y = record { shows = y.shows; kept = λ fault kept. y.kept fault (x.kept fault kept) }

module _ (o : Option Import) (f f1 : HostForm) (words : List Word) (memory : List ℕ) (a : HostAnswer) (output : List Action) (x : FindsSo o f words memory a f1 output) where
  call_shows : Shows f → Stays f f1
  call_shows shows = record { shows = shown_later; kept = kept_later }
    where
      shown_later : Shows f1
      shown_later later =
          let w = shows (x.found ++ later) in
          let y = x.leads w.finds later (found_first f.fault x.found later w.finds w.left) w.outside w.so_far w.state w.shown in
          record { finds = y.rest; left = y.left; outside = outside_after output w.outside; so_far = w.so_far ++ output; state = y.to.state; shown = y.to.shown }

      kept_later : (fault : Fault) → f.fault ≡ Some fault → f1.fault ≡ Some fault
      kept_later fault kept =
          let w = shows (x.found ++ []) in
          let y = x.leads w.finds [] (found_first f.fault x.found [] w.finds w.left) w.outside w.so_far w.state w.shown in
          sym (shown_fault _ y.to.state y.to.shown)
          ∙ call_stays o w.state words memory a y.to.state output fault y.to.step (shown_fault _ w.state w.shown ∙ kept)

module _ (tells : Type 0) where
  abbrev M : Meaning FormState Action
  M = form_meaning tells

  taken_untold : (t : Turn) (mem : MemoryForm) (output : List Action) (c1 : Conf) (h1 : FormState) → TakenAs M t Untold mem output c1 h1 → h1 ≡ Untold
  taken_untold (Goes c) mem output c1 h1 r = r.1
  taken_untold (Ends e) mem output c1 h1 r = absurd r
  taken_untold (Asks i args c) mem output c1 h1 r = absurd r.1

  steps_untold : (m : ProgramForm) (n : ℕ) (c : Conf) (output : List Action) (c1 : Conf) (h1 : FormState) → Steps M m n c Untold output c1 h1
      → h1 ≡ Untold
  steps_untold m zero c output c1 h1 r = r.1
  steps_untold m (suc n) c output c1 h1 r =
      let e = taken_untold (turn m c) c.memory r.2 r.0 r.1 r.4 in
      steps_untold m n r.0 r.3 c1 h1 (subst (λ (h : FormState). Steps M m n r.0 h r.3 c1 h1) e r.5)

  -- a step
  taken_stays : (t : Turn) (f f1 : HostForm) (mem : MemoryForm) (output : List Action) (c1 : Conf) → TakenAs M t (Told f) mem output c1 (Told f1)
      → Shows f → Stays f f1
  taken_stays (Goes c) f f1 mem output c1 r shows = unmoved f f1 shows r.1
  taken_stays (Ends e) f f1 mem output c1 r shows = absurd r
  taken_stays (Asks n ws c) f f1 mem output c1 r shows =
      let called : FormCalled tells (import_at n) f ws mem.bytes (told.Done r.0) f1 output = r.1.1 in
      call_shows (import_at n) f f1 ws mem.bytes (told.Done r.0) output called.finds shows

  run_stays : (m : ProgramForm) (n : ℕ) (c : Conf) (f : HostForm) (output : List Action) (c1 : Conf) (f1 : HostForm)
      → Steps M m n c (Told f) output c1 (Told f1) → Shows f → Stays f f1
  run_stays m zero c f output c1 f1 r shows = unmoved f f1 shows r.1
  run_stays m (suc n) c f output c1 f1 r shows = by r.1 r.4 r.5 (λ f2. run_stays m n r.0 f2 r.3 c1 f1)
    where
      by : (h : FormState) → TakenAs M (turn m c) (Told f) c.memory r.2 r.0 h → Steps M m n r.0 h r.3 c1 (Told f1)
          → ((f2 : HostForm) → Steps M m n r.0 (Told f2) r.3 c1 (Told f1) → Shows f2 → Stays f2 f1) → Stays f f1
      by Untold t rest more = absurd (never f1 (steps_untold m n r.0 r.3 c1 (Told f1) rest))
      by (Told f2) t rest more =
          let x = taken_stays (turn m c) f f2 c.memory r.2 r.0 t shows in
          stays_on f f2 f1 x (more f2 rest x.shows)

  -- A FAULT THAT IS KEPT, at two points of a run
  pub stays : (m : ProgramForm) (taken rest : ℕ) (start c later : Conf) (first f last : HostForm) (s : HostState) (output more : List Action)
      → Shown first s → Steps M m taken start (Told first) output c (Told f) → Steps M m rest c (Told f) more later (Told last)
      → (fault : Fault) → f.fault ≡ Some fault → last.fault ≡ Some fault
  stays m taken rest start c later first f last s output more shown ran went =
      (run_stays m rest c f more later last went (run_stays m taken start first output c f ran (finds_too first s shown)).shows).kept

  pub none_before : (m : ProgramForm) (taken rest : ℕ) (start c later : Conf) (first f last : HostForm) (s : HostState) (output more : List Action)
      → Shown first s → Steps M m taken start (Told first) output c (Told f) → Steps M m rest c (Told f) more later (Told last)
      → last.fault ≡ None → f.fault ≡ None
  none_before m taken rest start c later first f last s output more shown ran went none = by f.fault refl
    where
      by : (o : Option Fault) → f.fault ≡ o → f.fault ≡ None
      by None e = e
      by (Some fault) e =
          let q = sym none ∙ stays m taken rest start c later first f last s output more shown ran went fault e in
          cc
