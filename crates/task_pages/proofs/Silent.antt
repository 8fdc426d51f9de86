-- What the list of a module's imports says of its machines and of their runs.
use Rattle.std.proofs.Common.{◌≡◌, ◌∙◌, ℕ, zero, suc, List, [], ◌∷◌, map, Option, Some, Result, Ok, Err, IfOk, IfErr, Bool, true, false, refl, sym, ap, subst, ◌||◌}
use Rattle.std.specs.Prelude.{slice_get, if◌then◌else◌}
use Rattle.std.specs.List.{list_any}
use Rattle.std.specs.declared.vec.Vec.{Vec}
use Rattle.std.specs.declared.alloc.Global.{Global}
use Rattle.std.proofs.lemmas.Simd.{map-map}
use Rattle.wasm_types.specs.declared.module.Import.{Import as ModuleImport}
use Rattle.wasm_types.specs.declared.module.Module.{Module}
use Rattle.wasm_types.specs.Syntax.{ModuleForm}
use Rattle.wasm_types.specs.View.{view_import, view_module}
use Rattle.wasm_types.specs.ModuleGrammar.{IsModule}
use Rattle.module_decoder.proofs.CompleteModule.{one_module}
use Rattle.wasm_store.specs.declared.word.Word.{Word}
use Rattle.wasm_model.specs.Links.{IsNew, first_none, number_for, numbers_for}
use Rattle.wasm_model.specs.Machines.{turn}
use Rattle.wasm_model.specs.Runs.{MachineForm}
use Rattle.wasm_model.specs.declared.host.HostAnswer.{HostAnswer}
use Rattle.world_core.specs.WorldState.{Action}
use Rattle.host_step.specs.HostState.{HostState}
use Rattle.host_step.specs.HostStep.{HostStep, StepIf}
use Rattle.host_imports.specs.Imports.{host_finds}
use Rattle.host_imports.specs.declared.import.Import.{Import}
use Rattle.task_pages.specs.Calls.{AreImportsOf, AsksOnly, HasImports, IsAmong, IsSilent, IsTyped, IsUnlisted, Lists, step_meaning}
use Rattle.task_pages.specs.Powers.{writes, writes_of}
use Rattle.task_pages.specs.declared.checks.Unlisted.{Unlisted}
use Rattle.task_pages.specs.declared.checks.Unlisted.TheVariants as unlisted
use Rattle.task_pages.specs.declared.powers.Writes.TheVariants as writing
use Rattle.task_pages.proofs.Listing.{among, turn_among}
use Rattle.task_pages.proofs.Quiet.{step_quiet}
use Rattle.task_pages.proofs.Runs.{run_quiet}
use Rattle.task_pages.proofs.Turns.{asks_one_of}

module _ (bytes : List ℕ) (found : List Import) (has : HasImports bytes found) where
  -- a machine of the module has the numbers of these imports
  own_numbers : (whole : ModuleForm) (a : MachineForm) → IsModule bytes whole → IsNew host_finds whole a → AreImportsOf found (map Some a.program.numbers)
  own_numbers whole a read new =
      subst (AreImportsOf found) (ap (numbers_for host_finds) (one_module bytes has.whole whole has.read read) ∙ new.linked) has.imports

  pub asks_only : AsksOnly bytes found
  asks_only whole a c read new = turn_among found a.program.numbers (turn a.program c) (own_numbers whole a read new) (asks_one_of a.program c)

none_writes : (found : List Import) (at : ℕ) (i : Import) → list_any writes found ≡ false → slice_get found at ≡ Some i → writes i ≡ false
none_writes [] at i none e = cc
none_writes (j ∷ found) zero i none e = let same : j ≡ i = cc in subst (λ (k : Import). writes k ≡ false) same (front (writes j) none)
  where
    front : (b : Bool) → (b || list_any writes found) ≡ false → b ≡ false
    front true h = h
    front false h = refl
none_writes (j ∷ found) (suc at) i none e = none_writes found at i (rest (writes j) none) e
  where
    rest : (b : Bool) → (b || list_any writes found) ≡ false → list_any writes found ≡ false
    rest true h = cc
    rest false h = h

nothing_written : (b : Bool) → (if b then writing.AnyName else writing.Nothing) ≡ writing.Nothing → b ≡ false
nothing_written true e = cc
nothing_written false e = refl

call_quiet : (found : List Import) (n : ℕ) (before after : HostState) (words : List Word) (memory : List ℕ) (v : HostAnswer) (output : List Action)
    → list_any writes found ≡ false → IsAmong found n → HostStep n before words memory v after output → output ≡ []
call_quiet found n before after words memory v output none is r =
    step_quiet is.1 before after words memory v output (none_writes found is.0 is.1 none is.2)
    (subst (λ (o : Option Import). StepIf o before words memory v after output) is.3 r)

pub silent : (bytes : List ℕ) (found : List Import) → HasImports bytes found → writes_of found ≡ writing.Nothing → IsSilent bytes
silent bytes found has nothing whole a steps s s' output e c' read new r =
    let none = nothing_written (list_any writes found) nothing in
    let own = own_numbers bytes found has whole a read new in
    run_quiet step_meaning a.program (λ n one h words mem v h' mem' out q. call_quiet found n h h' words mem.bytes v out none (among found a.program.numbers n one.0 own one.1) q.1)
    steps a.conf s output e c' s' r

-- What is answered for a module whose imports are looked for.
module _ (bytes : List ℕ) (m : Module) (imports : List ModuleImport) (typed : IsTyped bytes (view_module m)) (same : imports ≡ m.imports.items) where
  abbrev Wanted : List (Option ℕ)
  Wanted = map (λ x. number_for host_finds (view_module m) (view_import x)) imports

  all_wanted : Wanted ≡ numbers_for host_finds (view_module m)
  all_wanted =
      ap (λ (is : List ModuleImport). map (λ x. number_for host_finds (view_module m) (view_import x)) is) same
      ∙ sym (map-map (number_for host_finds (view_module m)) view_import m.imports.items)

  has_imports : (found : List Import) → AreImportsOf found Wanted → HasImports bytes found
  has_imports found h = record { whole = view_module m; read = typed.0; typed = typed.1; imports = subst (AreImportsOf found) all_wanted h }

  pub listed_imports : (r : Result (Vec Import Global) Unlisted) → Lists r Wanted → IfOk r (λ found. HasImports bytes found.items)
  listed_imports (Ok found) h = has_imports found.items h
  listed_imports (Err e) h = tt

  pub asked_imports : (r : Result (Vec Import Global) Unlisted) → Lists r Wanted → IfOk r (λ found. AsksOnly bytes found.items)
  asked_imports (Ok found) h = asks_only bytes found.items (has_imports found.items h)
  asked_imports (Err e) h = tt

  pub silent_imports : (r : Result (Vec Import Global) Unlisted) → Lists r Wanted → IfOk r (λ found. writes_of found.items ≡ writing.Nothing → IsSilent bytes)
  silent_imports (Ok found) h = silent bytes found.items (has_imports found.items h)
  silent_imports (Err e) h = tt

  pub unlisted_imports : (r : Result (Vec Import Global) Unlisted) → Lists r Wanted → IfErr r (IsUnlisted bytes)
  unlisted_imports (Ok found) h = tt
  unlisted_imports (Err (unlisted.Decode fault)) h = absurd h
  unlisted_imports (Err (unlisted.Invalid fault)) h = absurd h
  unlisted_imports (Err (unlisted.BadImport place)) h =
      record { whole = view_module m; read = typed.0; typed = typed.1; first = ap (λ (os : List (Option ℕ)). first_none os) (sym all_wanted) ∙ h }
  unlisted_imports (Err unlisted.NoMemory) h = tt
