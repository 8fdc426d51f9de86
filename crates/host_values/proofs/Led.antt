-- From calls on tables over a world to what they mean to a machine.
use Rattle.std.proofs.Common.{◌≡◌, ℕ, List, ◌++◌, Option, Some, None, Result, Ok, Err, sym, subst, ◌∙◌}
use Rattle.awk_values.specs.declared.fault.Fault.{Fault}
use Rattle.wasm_model.specs.Hosts.{Typed}
use Rattle.wasm_model.specs.declared.host.HostAnswer.{HostAnswer}
use Rattle.wasm_model.specs.declared.host.HostAnswer.TheVariants as told
use Rattle.wasm_store.specs.declared.trap.TrapKind.TheVariants.{BadArgument}
use Rattle.wasm_store.specs.declared.word.Word.{Word}
use Rattle.world_core.specs.WorldState.{Action, Entry, Outside, after as outside_after}
use Rattle.host_step.specs.Answers.{refusal}
use Rattle.host_step.specs.HostLaws.{refusal_typed, step_typed}
use Rattle.host_step.specs.HostState.{HostState}
use Rattle.host_step.specs.HostStep.{StepIf}
use Rattle.host_imports.specs.Imports.{import_answer, import_type}
use Rattle.host_step.specs.Worlds.{with_output}
use Rattle.host_imports.specs.declared.import.Import.{Import}
use Rattle.host_step.specs.declared.refusal.Refusal.{Refusal}
use Rattle.host_step.specs.declared.refusal.Refusal.TheVariants as why
use Rattle.host_values.specs.Forms.{HostForm, Stands}
use Rattle.host_values.specs.FormLaws.{trap_typed}
use Rattle.host_values.specs.Findings.{IsFound, form_finding}
use Rattle.host_values.specs.FormMeaning.{FindsSo, FormCalled, FormMeans, StepFinds}
use Rattle.host_values.specs.Shown.{Shown, form_with_output}
use Rattle.host_values.specs.TableCalls.{Fits, answer_of_call, left_by_call}
use Rattle.host_values.specs.WorldCalls.{IsCalled, Leads, LeadsFinding, LedFinding}
use Rattle.host_values.proofs.AnyOutput.{step_free}
use Rattle.host_values.proofs.Showing.{own_output, shown_of, stands_of, stands_with}

module _ (tells : Type 0) (i : Import) (words : List Word) (memory : List ℕ) (before : HostForm) (none : before.fault ≡ None) where
  -- a state that is shown where so much came before, and the same where that much did not come
  module _ (so_far : List Action) (s : HostState) (h : Shown (form_with_output so_far before) s) where
    stands_so : Stands (form_with_output so_far before) s
    stands_so = stands_of (form_with_output so_far before) s none h

    abbrev s0 : HostState
    s0 = with_output before.shared.output s

    stands_there : Stands before s0
    stands_there = stands_with before.shared.output (form_with_output so_far before) s stands_so

    back : (a : HostAnswer) (s' : HostState) (output : List Action) → StepIf (Some i) (with_output so_far s0) words memory a s' output → StepIf (Some i) s words memory a s' output
    back a s' output = subst (λ (z : HostState). StepIf (Some i) z words memory a s' output) (own_output so_far before s stands_so)

  -- what is found there
  module _ (a : HostAnswer) (after-call : HostForm) (output : List Action) (l : LeadsFinding i before words memory a after-call output) where
    found_led : (later : List Entry) (outside : Outside) (so_far : List Action) (s : HostState) → LedFinding i s words memory a after-call output later outside so_far
        → StepFinds (Some i) s words memory a after-call output later outside so_far
    found_led later outside so_far s x = record {
      rest = x.rest;
      left = x.left;
      to = record {
        state = x.state;
        shown = shown_of (form_finding x.rest (outside_after output outside) (so_far ++ output) after-call) x.state x.stands;
        step = x.step;
      };
    }

    leads_finds : (finds later : List Entry) → IsFound before.fault l.found later finds → (outside : Outside) (so_far : List Action) (s : HostState)
        → Shown (form_finding finds outside so_far before) s → StepFinds (Some i) s words memory a after-call output later outside so_far
    leads_finds finds later is outside so_far s h =
        let e = subst (λ (o : Option Fault). IsFound o l.found later finds) none is in
        found_led later outside so_far s (l.leads later outside so_far s
        (subst (λ (x : List Entry). Stands (form_finding x outside so_far before) s) e (stands_of (form_finding finds outside so_far before) s none h)))

    finds_led : FindsSo (Some i) before words memory a after-call output
    finds_led = record { found = l.found; leads = leads_finds }

  led : (a : HostAnswer) (after-call : HostForm) (output : List Action) → Typed (Some (import_type i)) a → Leads tells i before words memory a after-call output
      → FormCalled tells (Some i) before words memory a after-call output
  led a after-call output typed both = let leads = both.0 in record {
    typed = typed;
    step = λ t so_far s h. let x = leads (s0 so_far s h) (stands_there so_far s h) in record {
      state = with_output (so_far ++ output) x.0;
      shown = shown_of (form_with_output (so_far ++ output) after-call) (with_output (so_far ++ output) x.0) (stands_with (so_far ++ output) after-call x.0 x.1);
      step = back so_far s h a (with_output (so_far ++ output) x.0) output (x.2.step t so_far);
    };
    finds = finds_led a after-call output both.1;
  }

  module _ (after-call : HostForm) (output : List Action) where
    -- A CALL on tables over a world, however it ends
    pub world_means : (r : Result (Option Word) Refusal) → Fits i r → IsCalled tells i before words memory r after-call output
        → FormMeans tells (Some i) before words memory (answer_of_call i r) (left_by_call r after-call) output
    world_means (Ok w) fits calls = led (told.Done w) after-call output fits calls
    world_means (Err (why.Fault f)) fits calls = led (told.Done (refusal (import_answer i))) (record after-call { fault = Some f }) output (refusal_typed (import_answer i)) calls
    world_means (Err (why.Trap k)) fits calls = led (told.Trap k) after-call output (trap_typed (Some (import_type i)) k) calls
    world_means (Err why.NoMemory) fits calls = record {
      outside = λ t so_far s h. let x = calls t (s0 so_far s h) (stands_there so_far s h) in sym x.1 ∙ x.2.outside;
      begins = λ t so_far s h. let x = calls t (s0 so_far s h) (stands_there so_far s h) in record {
        answer = x.2.answer;
        answered = x.2.answered;
        state = with_output (so_far ++ (output ++ x.2.rest)) x.2.state;
        rest = x.2.rest;
        step = back so_far s h x.2.answer (with_output (so_far ++ (output ++ x.2.rest)) x.2.state) (output ++ x.2.rest)
            (step_free so_far (Some i) (s0 so_far s h) words memory x.2.answer x.2.state (output ++ x.2.rest) x.2.step);
      };
    }

    -- an answer of another type is given from no state that is shown
    pub unfit_led : (w : Option Word) → (Fits i (Ok w) → ⊥) → IsCalled tells i before words memory (Ok w) after-call output
        → FormMeans tells (Some i) before words memory (told.Trap BadArgument) after-call output
    unfit_led w unfit calls = record {
      typed = trap_typed (Some (import_type i)) BadArgument;
      step = λ t so_far s h. absurd (unfit (calls.0 (s0 so_far s h) (stands_there so_far s h)).2.typed);
      finds = record {
        found = calls.1.found;
        leads = λ finds later is outside so_far s h.
            let x = leads_finds (told.Done w) after-call output calls.1 finds later is outside so_far s h in
            absurd (unfit (step_typed (Some i) s words memory (told.Done w) x.to.state output x.to.step));
      };
    }
