-- What machines ask of a host's meaning.
use Rattle.std.specs.Prelude.{ℕ, List, [], Option, Some, None}
use Rattle.std.proofs.Common.{refl, sym, subst, append-nil}
use Rattle.wasm_types.specs.Syntax.{Signature}
use Rattle.wasm_model.specs.Hosts.{Typed}
use Rattle.wasm_model.specs.HostAnswers.{GoesOn}
use Rattle.wasm_model.specs.declared.host.HostAnswer.{HostAnswer}
use Rattle.wasm_model.specs.declared.host.HostAnswer.TheVariants as told
use Rattle.wasm_store.specs.Memories.{MemoryForm}
use Rattle.wasm_store.specs.declared.trap.TrapKind.{TrapKind}
use Rattle.wasm_store.specs.declared.trap.TrapKind.TheVariants.{BadArgument}
use Rattle.wasm_store.specs.declared.word.Word.{Word}
use Rattle.world_core.specs.WorldState.{Action}
use Rattle.host_imports.specs.Imports.{host_types, import_at}
use Rattle.host_values.specs.Forms.{HostForm}
use Rattle.host_values.specs.FormMeaning.{Begins, FormMeans, FormState, Told, Untold, form_meaning}

no_memory_typed : (t : Option Signature) → Typed t told.NoMemory
no_memory_typed None = tt
no_memory_typed (Some t) = tt

pub trap_typed : (t : Option Signature) (k : TrapKind) → Typed t (told.Trap k)
trap_typed None k = tt
trap_typed (Some t) k = tt

means_typed : (tells : Type 0) (before : HostForm) (i : ℕ) (args : List Word) (memory : List ℕ) (a : HostAnswer) (after-call : HostForm)
    (out : List Action) → FormMeans tells (import_at i) before args memory a after-call out → Typed (host_types i) a
means_typed tells before i args memory (told.Done w) after-call out m = m.typed
means_typed tells before i args memory (told.Trap k) after-call out m = m.typed
means_typed tells before i args memory told.NoMemory after-call out m = no_memory_typed (host_types i)

-- an answer is of its import's type
pub form_typed : (tells : Type 0) (h : FormState) (i : ℕ) (args : List Word) (mem : MemoryForm) (a : HostAnswer) (h' : FormState) (mem' : MemoryForm)
    (out : List Action) → form_meaning tells h i args mem a h' mem' out → Typed (host_types i) a
form_typed tells (Told before) i args mem a (Told after-call) mem' out m = means_typed tells before i args mem.bytes a after-call out m.1
form_typed tells (Told before) i args mem a Untold mem' out m = m.1.typed
form_typed tells Untold i args mem a h' mem' out m = absurd m

-- where it wants memory, its output is how another answer's output begins
pub form_refused : (tells : Type 0) (h : FormState) (i : ℕ) (args : List Word) (mem : MemoryForm) (h' : FormState) (mem' : MemoryForm)
    (out : List Action) → form_meaning tells h i args mem told.NoMemory h' mem' out → GoesOn (form_meaning tells) h i args mem out
form_refused tells (Told before) i args mem (Told after-call) mem' out m = (
  told.Trap BadArgument,
  (λ q. cc),
  Untold,
  mem,
  [],
  (
    refl,
    record {
      typed = trap_typed (host_types i) BadArgument;
      other = λ q. cc;
      begins = λ t. subst (Begins (import_at i) before args mem.bytes) (sym (append-nil out)) (m.1.begins t);
    },
  ),
)
form_refused tells (Told before) i args mem Untold mem' out m = absurd (m.1.other refl)
form_refused tells Untold i args mem h' mem' out m = absurd m
