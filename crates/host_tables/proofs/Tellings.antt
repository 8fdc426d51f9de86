-- What is told of a call is what it means.
use Rattle.std.proofs.Common.{◌≡◌, ℕ, Bool, true, false, true≢false, not, cond, List, [], Option, Some, None, Result, Ok, Err, refl, sym, ap, ◌∙◌}
use Rattle.awk_values.specs.declared.fault.Fault.{Fault}
use Rattle.sem_primitives.specs.declared.sorts.Answer.{Answer}
use Rattle.sem_primitives.specs.declared.sorts.Answer.TheVariants as answer
use Rattle.sem_primitives.specs.declared.sorts.Sort.{Sort}
use Rattle.sem_primitives.specs.declared.sorts.Sort.TheVariants.{Value, Number, Array, Iterator}
use Rattle.wasm_model.specs.Hosts.{type_if}
use Rattle.wasm_model.specs.declared.host.HostAnswer.TheVariants as told
use Rattle.wasm_store.specs.declared.trap.TrapKind.TheVariants.{BadArgument}
use Rattle.wasm_store.specs.declared.word.Word.{Word}
use Rattle.wasm_store.specs.declared.word.Word.TheVariants.{I32, I64}
use Rattle.host_step.specs.Answers.{refusal}
use Rattle.host_step.specs.HostStep.{refuses}
use Rattle.host_imports.specs.Imports.{import_answer, lets_go, result_of}
use Rattle.host_imports.specs.declared.import.Import.{Import}
use Rattle.host_step.specs.declared.refusal.Refusal.{Refusal}
use Rattle.host_step.specs.declared.refusal.Refusal.TheVariants as why
use Rattle.world_core.specs.WorldState.{Action}
use Rattle.host_values.specs.Shown.{SharesTables}
use Rattle.host_values.specs.WorldCalls.{IsCalled}
use Rattle.host_values.proofs.Faults.{called_too}
use Rattle.host_values.proofs.Led.{unfit_led, world_means}
use Rattle.host_values.specs.Forms.{HostForm}
use Rattle.host_values.specs.FormMeaning.{FormMeans}
use Rattle.host_values.specs.TableCalls.{Fits, TableCalls, left_by_call}
use Rattle.host_values.proofs.Means.{refused_called, table_means, unfit_means}
use Rattle.host_tables.specs.Answers.{fits, told_as}

-- whether a word fits is decided

abbrev Decides : Bool → Type 0 → Type 0
Decides true A = A
Decides false A = A → ⊥

narrow_fits : (a : Answer) (w : Option Word) → result_of a ≡ result_of answer.Truth → fits a w ≡ fits answer.Truth w → Decides (fits answer.Truth w) (type_if w ≡ result_of a)
narrow_fits a None e f = λ q. let z = q ∙ e in cc
narrow_fits a (Some (I32 n)) e f = sym e
narrow_fits a (Some (I64 n)) e f = λ q. let z = q ∙ e in cc

sort_fits : (s : Sort) (w : Option Word) → Decides (fits (answer.Of s) w) (type_if w ≡ result_of (answer.Of s))
sort_fits Number None = λ q. cc
sort_fits Number (Some (I32 n)) = λ q. cc
sort_fits Number (Some (I64 n)) = refl
sort_fits Value w = narrow_fits (answer.Of Value) w refl refl
sort_fits Array w = narrow_fits (answer.Of Array) w refl refl
sort_fits Iterator w = narrow_fits (answer.Of Iterator) w refl refl

fits_so : (a : Answer) (w : Option Word) → Decides (fits a w) (type_if w ≡ result_of a)
fits_so answer.Nothing None = refl
fits_so answer.Nothing (Some w) = λ q. cc
fits_so (answer.Of s) w = sort_fits s w
fits_so answer.Truth w = narrow_fits answer.Truth w refl refl
fits_so answer.Done w = narrow_fits answer.Done w refl refl
fits_so answer.Input w = narrow_fits answer.Input w refl refl
fits_so answer.Assign w = narrow_fits answer.Assign w refl refl
fits_so answer.Stream w = narrow_fits answer.Stream w refl refl
fits_so answer.ValueOrEnd w = narrow_fits answer.ValueOrEnd w refl refl
fits_so answer.Name w = narrow_fits answer.Name w refl refl

module _ (tells : Type 0) (i : Import) (words : List Word) (memory : List ℕ) (before after-call : HostForm)
    (outside : after-call.shared.outside ≡ before.shared.outside) where
  told_word : (w : Option Word) (b : Bool) → Decides b (Fits i (Ok w)) → TableCalls i before words memory (Ok w) after-call
      → FormMeans tells (Some i) before words memory (cond b (told.Done w) (told.Trap BadArgument)) after-call []
  told_word w true d calls = table_means tells i words memory before after-call (Ok w) d outside calls
  told_word w false d calls = unfit_means tells i words memory before after-call w d calls

  -- A CALL on tables, as it is told
  pub told_means : (r : Result (Option Word) Refusal) → TableCalls i before words memory r after-call
      → FormMeans tells (Some i) before words memory (told_as i r) (left_by_call r after-call) []
  told_means (Ok w) calls = told_word w (fits (import_answer i) w) (fits_so (import_answer i) w) calls
  told_means (Err r) calls = table_means tells i words memory before after-call (Err r) (fits_none r) outside calls
    where
      fits_none : (x : Refusal) → Fits i (Err x)
      fits_none x = tt

-- a call that is refused
pub refused_means : (tells : Type 0) (i : Import) (f : HostForm) (words : List Word) (memory : List ℕ) → refuses i f.fault ≡ true
    → FormMeans tells (Some i) f words memory (told.Done (refusal (import_answer i))) f []
refused_means tells i f words memory h = by f.fault (lets_go i) refl refl (h)
  where
    by : (o : Option Fault) (b : Bool) → f.fault ≡ o → lets_go i ≡ b → refuses i f.fault ≡ true → FormMeans tells (Some i) f words memory (told.Done (refusal (import_answer i))) f []
    by None b e g r = absurd (true≢false (sym r ∙ ap (λ (x : Option Fault). refuses i x) e))
    by (Some fault) false e g r = refused_called tells i f words memory fault e g
    by (Some fault) true e g r = absurd (true≢false (sym r ∙ (ap (λ (x : Option Fault). refuses i x) e ∙ ap not g)))

-- A call on tables over a world, as it is told.
module _ (tells : Type 0) (i : Import) (words : List Word) (memory : List ℕ) (before : HostForm) (none : before.fault ≡ None) (output : List Action) where
  world_word : (after-call : HostForm) (w : Option Word) (b : Bool) → Decides b (Fits i (Ok w)) → IsCalled tells i before words memory (Ok w) after-call output
      → FormMeans tells (Some i) before words memory (cond b (told.Done w) (told.Trap BadArgument)) after-call output
  world_word after-call w true d calls = world_means tells i words memory before none after-call output (Ok w) d calls
  world_word after-call w false d calls = unfit_led tells i words memory before none after-call output w d calls

  pub world_told : (after-call : HostForm) (r : Result (Option Word) Refusal) → IsCalled tells i before words memory r after-call output
      → FormMeans tells (Some i) before words memory (told_as i r) (left_by_call r after-call) output
  world_told after-call (Ok w) calls = world_word after-call w (fits (import_answer i) w) (fits_so (import_answer i) w) calls
  world_told after-call (Err r) calls = world_means tells i words memory before none after-call output (Err r) tt calls

  -- at a fault the family tells other tables than the host has then
  pub faulted_told : (shown after-call : HostForm) (f : Fault) → SharesTables (record shown { fault = Some f }) (record after-call { fault = Some f })
      → IsCalled tells i before words memory (Err (why.Fault f)) shown output
      → FormMeans tells (Some i) before words memory (told_as i (Err (why.Fault f))) (record after-call { fault = Some f }) output
  faulted_told shown after-call f shares calls =
      called_too tells (Some i) before (record shown { fault = Some f }) (record after-call { fault = Some f }) words memory (told.Done (refusal (import_answer i))) output f refl shares
      (world_told shown (Err (why.Fault f)) calls)
