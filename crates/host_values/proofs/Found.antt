-- Calls that put nothing out, in an environment that others change too.
use Rattle.std.proofs.Common.{ℕ, List, [], ◌++◌, Option, Some, None, refl, sym, subst, append-nil}
use Rattle.awk_values.specs.declared.fault.Fault.{Fault}
use Rattle.wasm_model.specs.declared.host.HostAnswer.{HostAnswer}
use Rattle.wasm_store.specs.declared.word.Word.{Word}
use Rattle.world_core.specs.WorldState.{Action, Entry, Outside}
use Rattle.host_imports.specs.declared.import.Import.{Import}
use Rattle.host_values.specs.ElementCalls.{Leads}
use Rattle.host_values.specs.Forms.{HostForm, Stands}
use Rattle.host_values.specs.Findings.{IsFound, form_finding}
use Rattle.host_values.specs.WorldCalls.{LeadsFinding}

pub none_left : (o : Option Fault) (later : List Entry) → IsFound o [] later later
none_left None later = refl
none_left (Some fault) later = tt

module _ (i : Import) (before after-call : HostForm) (words : List Word) (memory : List ℕ) (a : HostAnswer) where
  -- these are found
  pub led_found : (found : List Entry) → ((later : List Entry) (outside : Outside) (so_far : List Action) → (rest : List Entry) × IsFound after-call.fault [] later rest
      × Leads i (form_finding (found ++ later) outside so_far before) words memory a (form_finding rest outside so_far after-call))
      → LeadsFinding i before words memory a after-call []
  led_found found calls = record {
    found = found;
    leads = λ later outside so_far s st.
        let c = calls later outside so_far in
        let x = c.2 s st in
        record {
          rest = c.0;
          left = c.1;
          state = x.0;
          stands = subst (λ (o : List Action). Stands (form_finding c.0 outside o after-call) x.0) (sym (append-nil so_far)) x.1;
          step = x.2;
        };
  }

  -- nothing is
  pub led_nothing : ((finds : List Entry) (outside : Outside) (so_far : List Action)
      → Leads i (form_finding finds outside so_far before) words memory a (form_finding finds outside so_far after-call)) → LeadsFinding i before words memory a after-call []
  led_nothing calls = led_found [] (λ later outside so_far. (later, none_left after-call.fault later, calls later outside so_far))
