-- A call on tables over a world, where no fault is kept: in every state that they show.
use Rattle.std.specs.Prelude.{◌≡◌, ℕ, List, [], ◌++◌, Option, Some, Result}
use Rattle.wasm_model.specs.declared.host.HostAnswer.{HostAnswer}
use Rattle.wasm_store.specs.declared.word.Word.{Word}
use Rattle.world_core.specs.WorldState.{Action, Entry, Outside, after as outside_after}
use Rattle.host_step.specs.HostState.{HostState}
use Rattle.host_step.specs.HostStep.{StepOf}
use Rattle.host_step.specs.Outcomes.{IsOutcome}
use Rattle.host_step.specs.Worlds.{Called, Wanted}
use Rattle.host_imports.specs.declared.import.Import.{Import}
use Rattle.host_step.specs.declared.refusal.Refusal.{Refusal}
use Rattle.host_values.specs.ElementCalls.{keeping}
use Rattle.host_values.specs.Forms.{HostForm, Stands}
use Rattle.host_values.specs.Findings.{IsFound, form_finding}

-- from every state that the tables show before, the call leads so to one that they show after
abbrev pub LeadsIn : Type 0 → Import → HostForm → List Word → List ℕ → HostAnswer → HostForm → List Action → Type 0
LeadsIn tells i before words memory a after output = (s : HostState) → Stands before s
    → (s' : HostState) × (Stands after s') × (Called tells (Some i) s words memory a s' output)

-- in an environment that others change too: there is such a step to a state that the tables show after the call, where these are found later
pub record LedFinding (i : Import) (s : HostState) (words : List Word) (memory : List ℕ) (a : HostAnswer) (after-call : HostForm)
    (output : List Action) (later : List Entry) (outside : Outside) (so_far : List Action) : Type 0 where
  pub rest : List Entry
  pub left : IsFound after-call.fault [] later rest
  pub state : HostState
  pub stands : Stands (form_finding rest (outside_after output outside) (so_far ++ output) after-call) state
  pub step : StepOf i s words memory a state output

-- what the call finds there, whatever is found after it
pub record LeadsFinding (i : Import) (before : HostForm) (words : List Word) (memory : List ℕ) (a : HostAnswer) (after-call : HostForm)
    (output : List Action) : Type 0 where
  pub found : List Entry
  pub leads : (later : List Entry) (outside : Outside) (so_far : List Action) (s : HostState) → Stands (form_finding (found ++ later) outside so_far before) s
      → LedFinding i s words memory a after-call output later outside so_far

abbrev pub Leads : Type 0 → Import → HostForm → List Word → List ℕ → HostAnswer → HostForm → List Action → Type 0
Leads tells i before words memory a after output = LeadsIn tells i before words memory a after output × LeadsFinding i before words memory a after output

-- A call on the tables, with this output. After a fault they are as the call leaves them. Where memory was wanting and the world is modelled, what was
-- written by then is how the output of another answer begins.
abbrev pub IsCalled : Type 0 → Import → HostForm → List Word → List ℕ → Result (Option Word) Refusal → HostForm → List Action → Type 0
IsCalled tells i before words memory r after output =
    IsOutcome i (λ a left. Leads tells i before words memory a left output) (λ left. tells → (s : HostState) → Stands before s
    → (s' : HostState) × (s'.shared.outside ≡ left.shared.outside) × (Wanted (Some i) s words memory s' output)) keeping r after
