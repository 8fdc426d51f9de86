-- From calls of the families to what a call of the host comes to.
use Rattle.std.proofs.Common.{◌≡◌, ℕ, false, true, true≢false, not, List, [], Option, Some, None, Result, Ok, Err, refl, subst, sym, ap, ◌∙◌}
use Rattle.std.specs.Prelude.{IsSome}
use Rattle.wasm_model.specs.declared.host.HostAnswer.{HostAnswer}
use Rattle.awk_values.specs.declared.fault.Fault.{Fault}
use Rattle.wasm_store.specs.declared.word.Word.{Word}
use Rattle.world_core.specs.WorldState.{Action, Entry, Outside, State}
use Rattle.host_step.specs.HostState.{HostState}
use Rattle.host_step.specs.HostStep.{refuses}
use Rattle.host_imports.specs.Imports.{lets_go}
use Rattle.host_imports.specs.declared.import.Import.{Import}
use Rattle.host_worlds.specs.declared.input.Input.{Input}
use Rattle.host_step.specs.declared.refusal.Refusal.{Refusal}
use Rattle.host_step.specs.declared.refusal.Refusal.TheVariants as why
use Rattle.host_values.specs.ElementCalls.{IsTableCall}
use Rattle.host_values.specs.Calls.{CarriesOut}
use Rattle.host_values.specs.Evaluations.{Evaluates, Evaluation, Values}
use Rattle.host_values.specs.declared.reply.Evaluated.{Evaluated}
use Rattle.host_values.specs.Forms.{HostForm}
use Rattle.host_texts.specs.NameForms.{left_after}
use Rattle.host_values.specs.Findings.{After, Finding, View, form_finding, viewed}
use Rattle.host_values.specs.Shown.{SharesTables, form_with_output}
use Rattle.host_values.specs.TableCalls.{TableCalls, answer_of_call, left_by_call}
use Rattle.host_values.specs.WorldCalls.{IsCalled}
use Rattle.host_values.proofs.Faults.{called_too}
use Rattle.host_values.proofs.Means.{plain_calls}
use Rattle.host_values.proofs.Steps.{ComesTo as EvaluatesTo}
use Rattle.host_texts.specs.States.{holding}
use Rattle.host_texts.specs.declared.texts.Texts.{Texts}
use Rattle.host_tables.specs.Answers.{told_as}
use Rattle.host_tables.specs.Families.{of_texts}
use Rattle.host_tables.specs.Forms.{of_tables}
use Rattle.host_tables.specs.declared.tables.Tables.{Tables}
use Rattle.host_tables.proofs.Bridge.{carried_tables, plain_tables}
use Rattle.host_tables.proofs.Tellings.{told_means, world_told}
use Rattle.host_calls.specs.Calls.{ComesTo, MeansSome}
use Rattle.host_calls.specs.Forms.{form_in}

module _ (tells : Type 0) (given : List Action → Type 0) (none_given : given []) (i : Import) (words : List Word) (memory : List ℕ) where
  -- a call on tables
  pub table_comes : (before after-call : HostForm) (r : Result (Option Word) Refusal) → after-call.shared.outside ≡ before.shared.outside
      → TableCalls i before words memory r after-call → ComesTo tells given i before words memory r after-call
  table_comes before after-call r outside calls = ([], none_given, told_means tells i words memory before after-call outside r calls)

  -- the same where no fault is kept
  pub plain_comes : (before after-call : HostForm) (r : Result (Option Word) Refusal) → before.fault ≡ None
      → after-call.shared.outside ≡ before.shared.outside
      → ((so_far : List Action) → IsTableCall i (form_with_output so_far before) words memory r (form_with_output so_far after-call))
      → ((finds : List Entry) (o : Outside) (so_far : List Action)
      → IsTableCall i (form_finding finds o so_far before) words memory r (form_finding finds o so_far after-call))
      → ComesTo tells given i before words memory r after-call
  plain_comes before after-call r none outside calls found = table_comes before after-call r outside (plain_calls i before after-call words memory r none by)
    where
      by : (v : View) → IsTableCall i (viewed v before) words memory r (viewed v after-call)
      by (After o) = calls o
      by (Finding finds o so_far) = found finds o so_far

  -- a call that at a fault leaves what is shared as it was, as the family tells it
  pub left_comes : (before after-call : HostForm) (r : Result (Option Word) Refusal) → before.fault ≡ None
      → after-call.shared.outside ≡ before.shared.outside
      → ((f : Fault) → SharesTables (record before { fault = Some f }) (record after-call { fault = Some f }))
      → ((so_far : List Action) → IsTableCall i (form_with_output so_far before) words memory r
      (left_after r (form_with_output so_far before) (form_with_output so_far after-call)))
      → ((finds : List Entry) (o : Outside) (so_far : List Action) → IsTableCall i (form_finding finds o so_far before) words memory r
      (left_after r (form_finding finds o so_far before) (form_finding finds o so_far after-call)))
      → ComesTo tells given i before words memory r after-call
  left_comes before after-call (Ok w) none outside shares calls found = plain_comes before after-call (Ok w) none outside calls found
  left_comes before after-call (Err (why.Fault f)) none outside shares calls found =
      let faulted = plain_calls i before before words memory (Err (why.Fault f)) none by in
      let told = told_means tells i words memory before before refl (Err (why.Fault f)) faulted in
      let answer = answer_of_call i (Err (why.Fault f)) in
      let shown = record before { fault = Some f } in
      ([], none_given, called_too tells (Some i) before shown (record after-call { fault = Some f }) words memory answer [] f refl (shares f) told)
    where
      by : (v : View) → IsTableCall i (viewed v before) words memory (Err (why.Fault f)) (viewed v before)
      by (After o) = calls o
      by (Finding finds o so_far) = found finds o so_far
  left_comes before after-call (Err (why.Trap k)) none outside shares calls found =
      plain_comes before after-call (Err (why.Trap k)) none outside calls found
  left_comes before after-call (Err why.NoMemory) none outside shares calls found =
      plain_comes before after-call (Err why.NoMemory) none outside calls found

-- a call over a world, where no fault is kept
pub world_comes : (tells : Type 0) (given : List Action → Type 0) (i : Import) (words : List Word) (memory : List ℕ) (before after-call : HostForm)
    (r : Result (Option Word) Refusal) → before.fault ≡ None → (output : List Action) → given output
    → IsCalled tells i before words memory r after-call output → ComesTo tells given i before words memory r after-call
world_comes tells given i words memory before after-call r none output gave calls =
    (output, gave, world_told tells i words memory before none output after-call r calls)

-- what is told of a call
pub told_comes : (tells : Type 0) (given : List Action → Type 0) (i : Import) (before between after-call : HostForm) (words : List Word) (memory : List ℕ) (r : Result (Option Word) Refusal) (a : HostAnswer)
    → a ≡ told_as i r → after-call ≡ left_by_call r between → ComesTo tells given i before words memory r between → MeansSome tells given i before words memory a after-call
told_comes tells given i before between after-call words memory r a told left comes =
    subst (λ (b : HostAnswer). MeansSome tells given i before words memory b after-call) (sym told)
    (subst (λ (z : HostForm). MeansSome tells given i before words memory (told_as i r) z) (sym left) comes)

-- a call on the tables by a function of its own, as it is told
module _ (tells : Type 0) (given : List Action → Type 0) (none_given : given []) (i : Import) (words : List Word) (memory : List ℕ) (t u : Tables) (input : Input) (state : State)
    (r : Result (Option Word) Refusal) (a : HostAnswer) (after-call : HostForm) (told : a ≡ told_as i r) (kept : after-call ≡ left_by_call r (form_in u input state)) where
  pub table_told : TableCalls i (form_in t input state) words memory r (form_in u input state)
      → MeansSome tells given i (form_in t input state) words memory a after-call
  table_told calls =
      told_comes tells given i (form_in t input state) (form_in u input state) after-call words memory r a told kept
      (table_comes tells given none_given i words memory (form_in t input state) (form_in u input state) r refl calls)

  -- where no fault is kept
  pub plain_told : t.fault ≡ None → ((f : HostForm) → IsTableCall i (of_tables t f) words memory r (of_tables u f))
      → MeansSome tells given i (form_in t input state) words memory a after-call
  plain_told none calls = table_told (plain_tables i words memory r t u (form_in t input state) none calls)

-- a call that came to what its evaluation says, carried out and told
module _ (tells : Type 0) (given : List Action → Type 0) (none_given : given []) (i : Import) (words : List Word) (memory : List ℕ) (t : Tables) (now : Texts) (input : Input) (state : State)
    (evaluated : Result Evaluated Refusal) (e : Values → HostState → List Word → Evaluation) (none : t.fault ≡ None)
    (comes : (s : HostState) → EvaluatesTo i t.handles s words memory (e t.handles s words))
    (evaluates : (s : HostState) → Evaluates t.handles (holding t.texts s) evaluated (holding now s) (e t.handles (holding t.texts s) words))
    (a : HostAnswer) (after-call : HostForm) where
  abbrev Settled : Type 0
  Settled = (r : Result (Option Word) Refusal) × (values : Values) × CarriesOut evaluated t.handles r values × (a ≡ told_as i r)
      × (after-call ≡ left_by_call r (of_texts now values (form_in t input state)))

  pub settled_means : Settled → MeansSome tells given i (form_in t input state) words memory a after-call
  settled_means (r, values, carries, told, kept) =
      let before = form_in t input state in
      let after = of_texts now values before in
      told_comes tells given i before after after-call words memory r a told kept
      (table_comes tells given none_given i words memory before after r refl (carried_tables i words memory t now values evaluated r e none comes evaluates carries before))

-- an import that can be refused is not, so no fault is kept
pub none_kept : (i : Import) (o : Option Fault) → lets_go i ≡ false → refuses i o ≡ false → o ≡ None
none_kept i None keeps goes = refl
none_kept i (Some f) keeps goes = absurd (true≢false (sym (ap not keeps) ∙ goes))

-- and one that does not let something go is, once a fault is kept
pub refused_kept : (i : Import) (o : Option Fault) → lets_go i ≡ false → IsSome o → refuses i o ≡ true
refused_kept i None keeps kept = absurd (true≢false (sym kept))
refused_kept i (Some f) keeps kept = ap not keeps
