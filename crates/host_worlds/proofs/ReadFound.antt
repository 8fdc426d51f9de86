-- Reads are calls where others change what names hold too.
use Rattle.std.proofs.Common.{◌≡◌, ℕ, List, [], ◌++◌, Some, None, Result, Ok, Err, sym, subst}
use Rattle.std.proofs.lemmas.List.{append-nil}
use Rattle.awk_values.specs.declared.fault.Fault.{Fault}
use Rattle.sem_primitives.specs.SharedState.{Inner}
use Rattle.sem_primitives.specs.declared.answers.InputAnswer.{InputAnswer}
use Rattle.wasm_model.specs.declared.host.HostAnswer.TheVariants as told
use Rattle.wasm_store.specs.declared.trap.TrapKind.{TrapKind}
use Rattle.wasm_store.specs.declared.word.Word.{Word}
use Rattle.wasm_store.specs.declared.word.Word.TheVariants.{I32}
use Rattle.world_core.specs.WorldState.{Action, Entry, Outside}
use Rattle.host_imports.specs.Codes.{input_code}
use Rattle.host_imports.specs.Imports.{import_answer}
use Rattle.host_imports.specs.declared.import.Import.{Import}
use Rattle.host_step.specs.Answers.{refusal}
use Rattle.host_step.specs.HostState.{Names}
use Rattle.host_step.specs.HostStep.{StepOf, carried}
use Rattle.host_step.specs.Worlds.{with_output}
use Rattle.host_values.specs.Forms.{HostForm, IsHeld, Past, state_of}
use Rattle.host_values.proofs.ElementSteps.{IsPast, leads, state_with, trapped, unrefused}
use Rattle.host_values.specs.Findings.{IsFound, form_finding}
use Rattle.host_values.specs.WorldCalls.{LeadsFinding}
use Rattle.host_values.proofs.Found.{led_found, led_nothing, none_left}
use Rattle.host_worlds.proofs.ReadSteps.{Carries, IsReading, answer_step, fault_step}

module _ (i : Import) (is : IsReading i) (before : HostForm) (words : List Word) (memory : List ℕ) (none : before.fault ≡ None) where
  abbrev pub there : List Entry → Outside → List Action → HostForm
  there finds o so_far = form_finding finds o so_far before

  -- it traps, and finds nothing
  pub traps_found : (k : TrapKind) → ((finds : List Entry) (o : Outside) (so_far : List Action) (p : Past) → carried i words memory (state_of (there finds o so_far) p) ≡ Err k)
      → LeadsFinding i before words memory (told.Trap k) before []
  traps_found k e = led_nothing i before before words memory (told.Trap k) (λ finds o so_far.
      trapped i (there finds o so_far) words memory k (unrefused i before.fault none) (λ p past. e finds o so_far p))

  module _ (after-call : HostForm) (arrays : after-call.arrays ≡ before.arrays) (iterators : after-call.iterators ≡ before.iterators) (found : List Entry) where
    past_after : (finds : List Entry) (o : Outside) (so_far : List Action) (p : Past) → IsPast before p → IsPast (form_finding finds o so_far after-call) p
    past_after finds o so_far p past = record {
      arrays = subst (λ x. IsHeld x p.array_places p.arrays) (sym arrays) past.arrays;
      iterators = subst (λ x. IsHeld x p.iterator_places p.iterators) (sym iterators) past.iterators;
      first = past.first;
    }

    -- it answers what is found
    pub answers_found : after-call.fault ≡ None → (x : InputAnswer)
        → ((later : List Entry) (o : Outside) (so_far : List Action) (p : Past) → IsPast before p
        → (left : Names) × (wanted : Result (Inner × InputAnswer) Fault) × Carries i is (there (found ++ later) o so_far) p words memory none left wanted
        × (inner : Inner) × (wanted ≡ Ok (inner, x)) × (state_with left inner (there (found ++ later) o so_far) ≡ state_of (form_finding later o so_far after-call) p))
        → LeadsFinding i before words memory (told.Done (Some (I32 (input_code x)))) after-call []
    answers_found kept x says = led_found i before after-call words memory (told.Done (Some (I32 (input_code x)))) found (λ later o so_far. (
      later,
      none_left after-call.fault later,
      leads i (there (found ++ later) o so_far) words memory (told.Done (Some (I32 (input_code x)))) (form_finding later o so_far after-call) (λ p past.
          let w = says later o so_far p (record { arrays = past.arrays; iterators = past.iterators; first = past.first }) in
          let g = there (found ++ later) o so_far in
          let last = state_of (form_finding later o so_far after-call) p in
          record {
            now = p;
            is = past_after later o so_far p (record { arrays = past.arrays; iterators = past.iterators; first = past.first });
            step = subst (λ (q : List Action). StepOf i (state_of g p) words memory (told.Done (Some (I32 (input_code x)))) (with_output q last) []) (append-nil so_far)
                (answer_step i is g p words memory none w.0 w.1 w.2 so_far w.3 x last w.4 w.5);
          }),
    ))

    -- it keeps a fault, and takes nothing of what is found
    pub faults_found : (fault : Fault) → after-call.fault ≡ Some fault
        → ((later : List Entry) (o : Outside) (so_far : List Action) (p : Past) → IsPast before p
        → (left : Names) × (wanted : Result (Inner × InputAnswer) Fault) × Carries i is (there (found ++ later) o so_far) p words memory none left wanted
        × (wanted ≡ Err fault) × (state_with left (state_of (there (found ++ later) o so_far) p).shared.inner (record (there (found ++ later) o so_far) { fault = Some fault })
        ≡ state_of (form_finding (found ++ later) o so_far after-call) p))
        → LeadsFinding i before words memory (told.Done (refusal (import_answer i))) after-call []
    faults_found fault kept says = led_found i before after-call words memory (told.Done (refusal (import_answer i))) found (λ later o so_far. (
      found ++ later,
      subst (λ f. IsFound f [] later (found ++ later)) (sym kept) tt,
      leads i (there (found ++ later) o so_far) words memory (told.Done (refusal (import_answer i))) (form_finding (found ++ later) o so_far after-call) (λ p past.
          let w = says later o so_far p (record { arrays = past.arrays; iterators = past.iterators; first = past.first }) in
          let g = there (found ++ later) o so_far in
          let last = state_of (form_finding (found ++ later) o so_far after-call) p in
          record {
            now = p;
            is = past_after (found ++ later) o so_far p (record { arrays = past.arrays; iterators = past.iterators; first = past.first });
            step = subst (λ (q : List Action). StepOf i (state_of g p) words memory (told.Done (refusal (import_answer i))) (with_output q last) []) (append-nil so_far)
                (fault_step i is g p words memory none w.0 w.1 w.2 so_far fault last w.3 w.4);
          }),
    ))
