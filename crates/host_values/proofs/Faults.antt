-- At a fault it is enough that tables are told which share what is looked at then.
use Rattle.std.proofs.Common.{◌≡◌, ℕ, List, [], ◌++◌, Option, Some, subst}
use Rattle.awk_values.specs.declared.fault.Fault.{Fault}
use Rattle.wasm_model.specs.declared.host.HostAnswer.{HostAnswer}
use Rattle.wasm_store.specs.declared.word.Word.{Word}
use Rattle.world_core.specs.WorldState.{Action, after as outside_after}
use Rattle.host_step.specs.HostState.{HostState}
use Rattle.host_imports.specs.declared.import.Import.{Import}
use Rattle.host_values.specs.Forms.{HostForm}
use Rattle.host_values.specs.Findings.{After, Finding, IsFound, View, viewed}
use Rattle.host_values.specs.FormMeaning.{FindsSo, FormCalled, StepShown}
use Rattle.host_values.specs.Shown.{SharesTables}
use Rattle.host_values.proofs.Showing.{shows_too}

module _ (tells : Type 0) (import : Option Import) (before f g : HostForm) (words : List Word) (memory : List ℕ) (a : HostAnswer) (output : List Action)
    (fault : Fault) (kept : f.fault ≡ Some fault) (shares : SharesTables f g) where
  step_too : (v : View) (out : List Action) (s : HostState) → StepShown import s words memory a (viewed v f) out → StepShown import s words memory a (viewed v g) out
  step_too v out s x = record { state = x.state; shown = shows_too f g fault kept shares v x.state x.shown; step = x.step }

  finds_too : FindsSo import before words memory a f output → FindsSo import before words memory a g output
  finds_too c = record {
    found = c.found;
    leads = λ finds later is outside so_far s h. let x = c.leads finds later is outside so_far s h in record {
      rest = x.rest;
      left = subst (λ (o : Option Fault). IsFound o [] later x.rest) shares.fault x.left;
      to = step_too (Finding x.rest (outside_after output outside) (so_far ++ output)) output s x.to;
    };
  }

  pub called_too : FormCalled tells import before words memory a f output → FormCalled tells import before words memory a g output
  called_too c = record {
    typed = c.typed;
    step = λ t so_far s h. step_too (After (so_far ++ output)) output s (c.step t so_far s h);
    finds = finds_too c.finds;
  }
