-- What a call means, and what it comes to.
use Rattle.std.specs.Prelude.{◌≡◌, ℕ, List, Option, Some, Result}
use Rattle.wasm_model.specs.declared.host.HostAnswer.{HostAnswer}
use Rattle.wasm_store.specs.declared.word.Word.{Word}
use Rattle.world_core.specs.Traces.{Call}
use Rattle.world_core.specs.WorldState.{Action, State}
use Rattle.host_streams.specs.Given.{Gives}
use Rattle.host_imports.specs.Imports.{import_at}
use Rattle.host_imports.specs.declared.import.Import.{Import}
use Rattle.host_step.specs.declared.refusal.Refusal.{Refusal}
use Rattle.host_values.specs.Calls.{CarriesOut}
use Rattle.host_values.specs.Evaluations.{Values}
use Rattle.host_values.specs.Forms.{HostForm}
use Rattle.host_values.specs.declared.reply.Evaluated.{Evaluated}
use Rattle.host_values.specs.FormMeaning.{FormMeans}
use Rattle.host_values.specs.TableCalls.{left_by_call}
use Rattle.host_tables.specs.Answers.{told_as}
use Rattle.host_calls.specs.Forms.{host_form}
use Rattle.host_calls.specs.declared.host.Host.{Host}

-- the call means this answer, with an output of which this is known
abbrev pub MeansSome : Type 0 → (List Action → Type 0) → Import → HostForm → List Word → List ℕ → HostAnswer → HostForm → Type 0
MeansSome tells given i before words memory a after-call =
    (output : List Action) × given output × FormMeans tells (Some i) before words memory a after-call output

-- With such an output the call means what is told of it, where the form after it keeps the fault that it met.
abbrev pub ComesTo : Type 0 → (List Action → Type 0) → Import → HostForm → List Word → List ℕ → Result (Option Word) Refusal → HostForm → Type 0
ComesTo tells given i before words memory outcome after-call =
    MeansSome tells given i before words memory (told_as i outcome) (left_by_call outcome after-call)

-- this is what was given to the host's world
abbrev pub Gave : {W : Type 0} {g : _} → (W → Call → W → Type 0) → Host W g → Host W g → List Action → Type 0
Gave did before after-call output = Gives did before.world after-call.world before.input.files.writers.items after-call.input.files.writers.items output

-- the same of hosts, whose world says of its state what the function says: the output is what was given to the world
abbrev pub Means : {W : Type 0} {g : _} → Type 0 → (W → State) → (W → Call → W → Type 0) → Import → Host W g → List Word → List ℕ → HostAnswer
    → Host W g → Type 0
Means tells told did i before words memory a after-call =
    MeansSome tells (Gave did before after-call) i (host_form told before) words memory a (host_form told after-call)

-- the same of the import that has the number, if one has
abbrev pub MeansAt : {W : Type 0} {g : _} → Type 0 → (W → State) → (W → Call → W → Type 0) → ℕ → Host W g → List Word → List ℕ → HostAnswer
    → Host W g → Type 0
MeansAt tells told did number before words memory a after-call =
    (output : List Action) × Gave did before after-call output
    × FormMeans tells (import_at number) (host_form told before) words memory a (host_form told after-call) output

-- a call that came to this is carried out over the host's values, and told
abbrev pub Settles : {W : Type 0} {g : _} → (W → State) → Import → Result Evaluated Refusal → Host W g → HostAnswer → Host W g → Type 0
Settles told i evaluated before a after-call = (r : Result (Option Word) Refusal) × (values : Values) × CarriesOut evaluated before.tables.handles r values
    × (a ≡ told_as i r) × (host_form told after-call ≡ left_by_call r (record (host_form told before) { values = values }))
