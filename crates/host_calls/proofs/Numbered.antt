-- From what the call of an import means to what the call of its number does.
use Rattle.std.proofs.Common.{◌≡◌, ◌≤◌, ℕ, List, [], Option, Some, None, refl, subst, sym}
use Rattle.std.proofs.lemmas.Option.{slice_get_past}
use Rattle.wasm_model.specs.declared.host.HostAnswer.{HostAnswer}
use Rattle.wasm_model.specs.declared.host.HostAnswer.TheVariants.{Trap}
use Rattle.wasm_store.specs.declared.trap.TrapKind.TheVariants.{BadArgument}
use Rattle.wasm_store.specs.declared.word.Word.{Word}
use Rattle.world_core.specs.Traces.{Call}
use Rattle.world_core.specs.WorldState.{Action, State}
use Rattle.host_imports.specs.Imports.{import_at, import_count, imports}
use Rattle.host_imports.specs.declared.import.Import.{Import}
use Rattle.host_values.specs.FormMeaning.{FormMeans}
use Rattle.host_values.specs.Forms.{HostForm}
use Rattle.host_values.proofs.Means.{unknown_called}
use Rattle.host_calls.specs.Calls.{MeansAt, MeansSome}
use Rattle.host_calls.specs.Forms.{host_form}
use Rattle.host_calls.specs.declared.host.Host.{Host}
use Rattle.host_calls.proofs.Gaves.{gave_none}

module _ (tells : Type 0) (given : List Action → Type 0) where
  -- the call of an import is that of its number
  pub numbered : (n k : ℕ) (before : HostForm) (words : List Word) (memory : List ℕ) (a : HostAnswer) (after-call : HostForm) → n ≡ k
      → ((output : List Action) × given output × FormMeans tells (import_at k) before words memory a after-call output)
      → (output : List Action) × given output × FormMeans tells (import_at n) before words memory a after-call output
  numbered n k before words memory a after-call is means =
      subst (λ (j : ℕ). (output : List Action) × given output × FormMeans tells (import_at j) before words memory a after-call output) (sym is) means

  -- the same of an import that was found
  pub found_at : (n : ℕ) (i : Import) (before : HostForm) (words : List Word) (memory : List ℕ) (a : HostAnswer) (after-call : HostForm) → import_at n ≡ Some i
      → MeansSome tells given i before words memory a after-call
      → (output : List Action) × given output × FormMeans tells (import_at n) before words memory a after-call output
  found_at n i before words memory a after-call is means =
      subst (λ (o : Option Import). (output : List Action) × given output × FormMeans tells o before words memory a after-call output) (sym is) means

  -- a call over the same bytes
  pub bytes_are : (i : Import) (before : HostForm) (words : List Word) (memory bytes : List ℕ) (a : HostAnswer) (after-call : HostForm) → memory ≡ bytes
      → MeansSome tells given i before words memory a after-call → MeansSome tells given i before words bytes a after-call
  bytes_are i before words memory bytes a after-call is means = subst (λ (bs : List ℕ). MeansSome tells given i before words bs a after-call) is means

-- no import has the number
pub unknown_means : {W : Type 0} {g : _} (tells : Type 0) (told : W → State) (did : W → Call → W → Type 0) (n : ℕ) (h : Host W g) (words : List Word) (memory : List ℕ) (a : HostAnswer)
    → a ≡ Trap BadArgument → import_at n ≡ None → MeansAt tells told did n h words memory a h
unknown_means tells told did n h words memory a is none =
    let before = host_form told h in
    let means = subst (λ (i : Option Import). FormMeans tells i before words memory (Trap BadArgument) before []) (sym none) (unknown_called tells before words memory) in
    ([], gave_none did h h refl refl, subst (λ (b : HostAnswer). FormMeans tells (import_at n) before words memory b before []) (sym is) means)

-- past the last import
pub none_past : (n : ℕ) → import_count ≤ n → import_at n ≡ None
none_past n past = slice_get_past imports n past
