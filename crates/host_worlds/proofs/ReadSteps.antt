-- Reads are calls of a host over a world.
use Rattle.std.proofs.Common.{◌≡◌, ◌≢◌, ℕ, List, [], ◌++◌, ◌^◌, ◌-◌, Some, None, Result, Ok, Err, refl, sym, ap, subst, ◌∙◌}
use Rattle.std.proofs.lemmas.List.{append-nil}
use Rattle.awk_values.specs.declared.fault.Fault.{Fault}
use Rattle.sem_primitives.specs.SharedState.{Inner}
use Rattle.sem_primitives.specs.Sorts.{InAnswer}
use Rattle.sem_primitives.specs.declared.answers.InputAnswer.{InputAnswer}
use Rattle.sem_primitives.specs.declared.sorts.Answer.TheVariants as answer
use Rattle.wasm_model.specs.Hosts.{type_if}
use Rattle.wasm_model.specs.declared.host.HostAnswer.{HostAnswer}
use Rattle.wasm_model.specs.declared.host.HostAnswer.TheVariants as told
use Rattle.wasm_store.specs.declared.trap.TrapKind.{TrapKind}
use Rattle.wasm_store.specs.declared.word.Word.{Word}
use Rattle.wasm_store.specs.declared.word.Word.TheVariants.{I32}
use Rattle.world_core.specs.WorldState.{Action}
use Rattle.host_imports.specs.Codes.{input_code}
use Rattle.host_step.specs.Answers.{FreeFor, encode, refusal}
use Rattle.host_step.specs.HostState.{HostState, Names}
use Rattle.host_step.specs.HostStep.{Acts, StepOf, carried}
use Rattle.host_imports.specs.Imports.{import_answer, result_of}
use Rattle.host_step.specs.Worlds.{Called, Wanted, with_output}
use Rattle.host_imports.specs.declared.import.Import.{Import}
use Rattle.host_values.specs.Forms.{HostForm, IsHeld, Past, state_of}
use Rattle.host_values.proofs.ElementSteps.{IsPast, acts_of, done_is_some, faults_of, goes, keeps_fault, state_with, traps, unrefused}
use Rattle.host_values.specs.WorldCalls.{LeadsIn}

-- the form with this output so far
abbrev pub form_output : List Action → HostForm → HostForm
form_output o f = record f { shared = record f.shared { output = o } }

-- what the five imports share: they answer how a read went
pub record IsReading (i : Import) : Type 0 where
  pub coerce : InputAnswer → InAnswer (import_answer i)
  pub word : (names : Names) (x : InputAnswer) → encode 0 names (import_answer i) (coerce x) ≡ (Some (I32 (input_code x)), names)
  pub free : (names : Names) (x : InputAnswer) → FreeFor names (import_answer i) (coerce x) 0
  pub refused : refusal (import_answer i) ≡ refusal answer.Input
  pub typed : (n : ℕ) → type_if (Some (I32 n)) ≡ result_of (import_answer i)

-- the tables show it after the call as before
pub leads_in : (tells : Type 0) (i : Import) (before after : HostForm) (words : List Word) (memory : List ℕ) (a : HostAnswer) → after.arrays ≡ before.arrays → after.iterators ≡ before.iterators
    → ((p : Past) → IsPast before p → Called tells (Some i) (state_of before p) words memory a (state_of after p) []) → LeadsIn tells i before words memory a after []
leads_in tells i before after words memory a arrays iterators go s st = (
  state_of after st.past,
  record {
    past = st.past;
    state = refl;
    arrays = subst (λ x. IsHeld x st.past.array_places st.past.arrays) (sym arrays) st.arrays;
    iterators = subst (λ x. IsHeld x st.past.iterator_places st.past.iterators) (sym iterators) st.iterators;
    first = st.first;
  },
  subst (λ (t : HostState). Called tells (Some i) t words memory a (state_of after st.past) []) (sym st.state) (go st.past (record { arrays = st.arrays; iterators = st.iterators; first = st.first })),
)

module _ (i : Import) (is : IsReading i) (f : HostForm) (p : Past) (words : List Word) (memory : List ℕ) (none : f.fault ≡ None) where
  abbrev Comes : Type 0
  Comes = Result (Names × Acts (InAnswer (import_answer i))) TrapKind

  -- what the call comes to, by its row of the table and whatever was put out
  pub record Carries (left : Names) (wanted : Result (Inner × InputAnswer) Fault) : Type 0 where
    pub answers : (o : List Action) (inner : Inner) (x : InputAnswer) → wanted ≡ Ok (inner, x) → ◌≡◌ {A = Comes} (carried i words memory (state_of (form_output o f) p)) (Ok (left, acts_of f inner (is.coerce x)))
    pub faults : (o : List Action) (fault : Fault) → wanted ≡ Err fault → ◌≡◌ {A = Comes} (carried i words memory (state_of (form_output o f) p)) (Ok (left, faults_of f (state_of f p).shared.inner fault))

  -- it traps
  pub trap_called : (tells : Type 0) (k : TrapKind) → ((o : List Action) → ◌≡◌ {A = Comes} (carried i words memory (state_of (form_output o f) p)) (Err k)) → Called tells (Some i) (state_of f p) words memory (told.Trap k) (state_of f p) []
  trap_called tells k e = record {
    typed = tt;
    step = λ t o. subst (λ q. StepOf i (state_of (form_output o f) p) words memory (told.Trap k) (with_output q (state_of f p)) []) (sym (append-nil o)) (traps i (form_output o f) p words memory k (unrefused i f.fault none) (e o));
  }

  module _ (left : Names) (wanted : Result (Inner × InputAnswer) Fault) (c : Carries left wanted) where
    pub answer_step : (o : List Action) (inner : Inner) (x : InputAnswer) (after : HostState) → wanted ≡ Ok (inner, x) → state_with left inner f ≡ after
        → StepOf i (state_of (form_output o f) p) words memory (told.Done (Some (I32 (input_code x)))) (with_output (o ++ []) after) []
    answer_step o inner x after e same =
        goes i (form_output o f) p (with_output (o ++ []) after) words memory left inner (is.coerce x) 0 (Some (I32 (input_code x))) (unrefused i f.fault none) (c.answers o inner x e) (is.free left x) (ap (λ y. y.0) (is.word left x))
        (ap (λ y. state_with y.1 inner (form_output o f)) (is.word left x) ∙ ap (with_output o) same ∙ ap (λ q. with_output q after) (sym (append-nil o)))

    pub fault_step : (o : List Action) (fault : Fault) (after : HostState) → wanted ≡ Err fault → state_with left (state_of f p).shared.inner (record f { fault = Some fault }) ≡ after
        → StepOf i (state_of (form_output o f) p) words memory (told.Done (refusal (import_answer i))) (with_output (o ++ []) after) []
    fault_step o fault after e same =
        keeps_fault i (form_output o f) p (with_output (o ++ []) after) words memory left (state_of f p).shared.inner fault (unrefused i f.fault none) (c.faults o fault e)
        (ap (with_output o) same ∙ ap (λ q. with_output q after) (sym (append-nil o)))

    -- it answers
    pub answer_called : (tells : Type 0) (x : InputAnswer) (after : HostState) → (tells → (inner : Inner) × (wanted ≡ Ok (inner, x)) × (state_with left inner f ≡ after))
        → Called tells (Some i) (state_of f p) words memory (told.Done (Some (I32 (input_code x)))) after []
    answer_called tells x after says = record {
      typed = is.typed (input_code x);
      step = λ t o. let g = says t in answer_step o g.0 x after g.1 g.2;
    }

    -- a fault is kept
    pub fault_called : (tells : Type 0) (fault : Fault) (after : HostState) → (tells → wanted ≡ Err fault) → state_with left (state_of f p).shared.inner (record f { fault = Some fault }) ≡ after
        → Called tells (Some i) (state_of f p) words memory (told.Done (refusal (import_answer i))) after []
    fault_called tells fault after says same = record {
      typed = subst (λ w. type_if w ≡ result_of (import_answer i)) (sym is.refused) (is.typed (2 ^ 32 - 1));
      step = λ t o. fault_step o fault after (says t) same;
    }

    -- memory was wanting
    wanted_by : (y : Result (Inner × InputAnswer) Fault) → wanted ≡ y → (a : HostAnswer) × (a ≢ told.NoMemory) × (after : HostState) × (StepOf i (state_of f p) words memory a (with_output (f.shared.output ++ []) after) [])
    wanted_by (Ok (inner, x)) e = (told.Done (Some (I32 (input_code x))), done_is_some _, state_with left inner f, answer_step f.shared.output inner x _ e refl)
    wanted_by (Err fault) e = (told.Done (refusal (import_answer i)), done_is_some _, state_with left (state_of f p).shared.inner (record f { fault = Some fault }), fault_step f.shared.output fault _ e refl)

    pub memory_wanted : (after : HostState) → after.shared.outside ≡ (state_of f p).shared.outside → Wanted (Some i) (state_of f p) words memory after []
    memory_wanted after same = let w = wanted_by wanted refl in record {
      outside = same;
      answer = w.0;
      answered = w.1;
      state = with_output (f.shared.output ++ []) w.2;
      rest = [];
      step = w.3;
    }
