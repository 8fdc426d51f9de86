-- Where a call writes, what is left of the main input stays as it was; in a world that is not modelled, nobody sees whether it does.
use Rattle.std.proofs.Common.{◌≡◌, ℕ, List, ◌++◌, Option, Some, None, Result, Ok, Err, refl, sym, subst}
use Rattle.sem_primitives.specs.SharedState.{MainInput}
use Rattle.wasm_model.specs.declared.host.HostAnswer.{HostAnswer}
use Rattle.wasm_model.specs.declared.host.HostAnswer.TheVariants as told
use Rattle.wasm_store.specs.declared.word.Word.{Word}
use Rattle.world_core.specs.WorldState.{Action}
use Rattle.host_imports.specs.declared.import.Import.{Import}
use Rattle.host_step.specs.declared.refusal.Refusal.{Refusal}
use Rattle.host_step.specs.declared.refusal.Refusal.TheVariants as why
use Rattle.host_values.specs.Forms.{HostForm}
use Rattle.host_values.specs.FormMeaning.{FormCalled, FormMeans, StepShown}
use Rattle.host_values.specs.Shown.{form_with_output}
use Rattle.host_values.specs.TableCalls.{left_by_call}
use Rattle.host_values.specs.WorldCalls.{IsCalled}
use Rattle.host_tables.specs.Answers.{told_as}
use Rattle.host_tables.proofs.Tellings.{world_told}
use Rattle.host_calls.specs.Calls.{ComesTo}

-- with this main input
abbrev pub with_main : MainInput → HostForm → HostForm
with_main m f = record f { shared = record f.shared { inner = record f.shared.inner { main = m } } }

module _ (tells : Type 0) (i : Import) (before f : HostForm) (words : List Word) (memory : List ℕ) (old new : MainInput)
    (same : tells → old ≡ new) where
  -- in an environment that others change too the form has its own
  called_moved : (a : HostAnswer) (output : List Action) → FormCalled tells (Some i) before words memory a (with_main old f) output
      → FormCalled tells (Some i) before words memory a (with_main new f) output
  called_moved a output c = record {
    typed = c.typed;
    step = λ t so_far s h.
        subst (λ m. StepShown (Some i) s words memory a (form_with_output (so_far ++ output) (with_main m f)) output) (same t) (c.step t so_far s h);
    finds = record {
      found = c.finds.found;
      leads = λ finds later is outside so_far s h. let x = c.finds.leads finds later is outside so_far s h in record { rest = x.rest; left = x.left; to = x.to };
    };
  }

  pub means_moved : (a : HostAnswer) (output : List Action) → FormMeans tells (Some i) before words memory a (with_main old f) output
      → FormMeans tells (Some i) before words memory a (with_main new f) output
  means_moved (told.Done w) output m = called_moved (told.Done w) output m
  means_moved (told.Trap k) output m = called_moved (told.Trap k) output m
  means_moved told.NoMemory output m = record { outside = m.outside; begins = m.begins }

-- the fault that is kept is none of the main input
pub left_with_main : (r : Result (Option Word) Refusal) (m : MainInput) (f : HostForm) → left_by_call r (with_main m f) ≡ with_main m (left_by_call r f)
left_with_main (Ok w) m f = refl
left_with_main (Err (why.Fault x)) m f = refl
left_with_main (Err (why.Trap k)) m f = refl
left_with_main (Err why.NoMemory) m f = refl

-- A call that writes: the family tells the main input as it was before.
pub wrote_comes : (tells : Type 0) (given : List Action → Type 0) (i : Import) (words : List Word) (memory : List ℕ) (before f : HostForm) (old new : MainInput)
    → (tells → old ≡ new)
    → (r : Result (Option Word) Refusal) → before.fault ≡ None → (output : List Action) → given output → IsCalled tells i before words memory r (with_main old f) output
    → ComesTo tells given i before words memory r (with_main new f)
wrote_comes tells given i words memory before f old new same r none output gave calls = (
  output,
  gave,
  subst (λ z. FormMeans tells (Some i) before words memory (told_as i r) z output) (sym (left_with_main r new f))
      (means_moved tells i before (left_by_call r f) words memory old new same (told_as i r) output
      (subst (λ z. FormMeans tells (Some i) before words memory (told_as i r) z output) (left_with_main r old f)
      (world_told tells i words memory before none output (with_main old f) r calls))),
)
