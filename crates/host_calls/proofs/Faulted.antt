-- At a fault a read tells the tables as they were before it, but for what it spends. A host that keeps the fault looks at nothing else any more.
use Rattle.std.proofs.Common.{◌≡◌, ℕ, List, [], ◌++◌, Option, Some, None, Result, Ok, Err, refl, sym, subst}
use Rattle.wasm_model.specs.declared.host.HostAnswer.{HostAnswer}
use Rattle.wasm_model.specs.declared.host.HostAnswer.TheVariants as told
use Rattle.wasm_store.specs.declared.word.Word.{Word}
use Rattle.world_core.specs.WorldState.{Outside}
use Rattle.host_step.specs.Answers.{refusal}
use Rattle.host_step.specs.HostState.{HostState}
use Rattle.host_step.specs.HostStep.{StepIf}
use Rattle.host_imports.specs.Imports.{import_answer}
use Rattle.host_step.specs.Worlds.{Called, with_output}
use Rattle.host_imports.specs.declared.import.Import.{Import}
use Rattle.host_step.specs.declared.refusal.Refusal.{Refusal}
use Rattle.host_step.specs.declared.refusal.Refusal.TheVariants as why
use Rattle.host_values.specs.Forms.{HostForm, state_of}
use Rattle.host_values.specs.FormMeaning.{FormMeans}
use Rattle.host_values.specs.TableCalls.{left_by_call}
use Rattle.host_values.specs.WorldCalls.{IsCalled, LeadsFinding, LeadsIn}
use Rattle.host_tables.proofs.Tellings.{faulted_told, world_told}
use Rattle.host_tables.specs.Answers.{told_as}
use Rattle.host_worlds.specs.Calls.{shown_after}

-- the names outside hold this
abbrev form_outside : Outside → HostForm → HostForm
form_outside o f = record f { shared = record f.shared { outside = o } }

abbrev state_outside : Outside → HostState → HostState
state_outside o s = record s { shared = record s.shared { outside = o } }

module _ (tells : Type 0) (i : Import) (before : HostForm)
    (words : List Word) (memory : List ℕ) (o : Outside) where
  abbrev refused : HostAnswer
  refused = told.Done (refusal (import_answer i))

  called_so : (s t : HostState) → (tells → t.shared.outside ≡ o) → Called tells (Some i) s words memory refused t []
      → Called tells (Some i) s words memory refused (state_outside o t) []
  called_so s t same c = record {
    typed = c.typed;
    step = λ y so_far.
        subst (λ (z : Outside). StepIf (Some i) (with_output so_far s) words memory refused (with_output (so_far ++ []) (state_outside z t)) [])
        (same y) (c.step y so_far);
  }

  leads_so : (f : HostForm) → (tells → f.shared.outside ≡ o) → LeadsIn tells i before words memory refused f []
      → LeadsIn tells i before words memory refused (form_outside o f) []
  leads_so f same leads s st = let x = leads s st in (
    state_of (form_outside o f) x.1.past,
    record { past = x.1.past; state = refl; arrays = x.1.arrays; iterators = x.1.iterators; first = x.1.first },
    called_so s (state_of f x.1.past) same
        (subst (λ (z : HostState). Called tells (Some i) s words memory refused z []) x.1.state x.2),
  )

  -- and what is found has no such names
  finds_so : (f : HostForm) → LeadsFinding i before words memory refused f [] → LeadsFinding i before words memory refused (form_outside o f) []
  finds_so f l = record {
    found = l.found;
    leads = λ later outside so_far s st.
        let x = l.leads later outside so_far s st in record { rest = x.rest; left = x.left; state = x.state; stands = x.stands; step = x.step };
  }

-- A READ, as it is told
module _ (tells : Type 0) (i : Import) (before after-call : HostForm) (none : before.fault ≡ None)
    (words : List Word) (memory : List ℕ)
    (arrays : before.arrays ≡ after-call.arrays) (iterators : before.iterators ≡ after-call.iterators)
    (output : before.shared.output ≡ after-call.shared.output)
    (outside : tells → after-call.shared.outside ≡ before.shared.outside) where
  pub read_told : (r : Result (Option Word) Refusal) → IsCalled tells i before words memory r (shown_after r before after-call) []
      → FormMeans tells (Some i) before words memory (told_as i r) (left_by_call r after-call) []
  read_told (Ok w) calls = world_told tells i words memory before none [] after-call (Ok w) calls
  read_told (Err (why.Trap k)) calls = world_told tells i words memory before none [] after-call (Err (why.Trap k)) calls
  read_told (Err why.NoMemory) calls = world_told tells i words memory before none [] after-call (Err why.NoMemory) calls
  read_told (Err (why.Fault f)) calls =
      faulted_told tells i words memory before none [] (form_outside after-call.shared.outside (record before { values = after-call.values })) after-call f
      (record { values = refl; arrays = arrays; iterators = iterators; fault = refl; outside = refl; output = output }) (
        leads_so tells i before words memory after-call.shared.outside (record before { values = after-call.values; fault = Some f }) (λ y. sym (outside y))
            calls.0,
        finds_so tells i before words memory after-call.shared.outside (record before { values = after-call.values; fault = Some f }) calls.1,
      )
