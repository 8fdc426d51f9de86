-- What machines ask of this meaning.
use Rattle.std.specs.Prelude.{ℕ, List, []}
use Rattle.std.proofs.Common.{refl, sym, subst, append-nil}
use Rattle.wasm_model.specs.Hosts.{Typed}
use Rattle.wasm_model.specs.HostAnswers.{GoesOn}
use Rattle.wasm_model.specs.declared.host.HostAnswer.{HostAnswer}
use Rattle.wasm_model.specs.declared.host.HostAnswer.TheVariants as told
use Rattle.wasm_store.specs.Memories.{MemoryForm}
use Rattle.wasm_store.specs.declared.trap.TrapKind.TheVariants.{BadArgument}
use Rattle.wasm_store.specs.declared.word.Word.{Word}
use Rattle.world_core.specs.Traces.{Call}
use Rattle.world_core.specs.WorldState.{Action}
use Rattle.host_imports.specs.Imports.{host_types, import_at}
use Rattle.host_values.specs.FormLaws.{form_typed, trap_typed}
use Rattle.host_values.specs.FormMeaning.{Begins, FormState, Told, Untold, form_meaning}
use Rattle.host_calls.specs.Runs.{Sight, given_meaning}

-- an answer is of its import's type
pub given_typed : {W : Type 0} (tells : Type 0) (did : W → Call → W → Type 0) (h : Sight W) (i : ℕ) (args : List Word) (mem : MemoryForm) (a : HostAnswer)
    (h' : Sight W) (mem' : MemoryForm) (out : List Action) → given_meaning tells did h i args mem a h' mem' out → Typed (host_types i) a
given_typed tells did h i args mem a h' mem' out m = form_typed tells h.tables i args mem a h'.tables mem' out m.0

module _ {W : Type 0} (tells : Type 0) (did : W → Call → W → Type 0) (i : ℕ) (args : List Word) (mem : MemoryForm) (mem' : MemoryForm) (out : List Action) where
  abbrev seen : FormState → Sight W → Sight W
  seen f h = record h { tables = f }

  refused_by : (h : Sight W) (f f' : FormState) → form_meaning tells f i args mem told.NoMemory f' mem' out
      → GoesOn (given_meaning tells did) (seen f h) i args mem out
  refused_by h (Told before) (Told after-call) m = (
    told.Trap BadArgument,
    (λ q. cc),
    seen Untold h,
    mem,
    [],
    (
      (
        refl,
        record {
          typed = trap_typed (host_types i) BadArgument;
          other = λ q. cc;
          begins = λ t. subst (Begins (import_at i) before args mem.bytes) (sym (append-nil out)) (m.1.begins t);
        },
      ),
      tt,
    ),
  )
  refused_by h (Told before) Untold m = absurd (m.1.other refl)
  refused_by h Untold f' m = absurd m

-- where it wants memory, its output is how another answer's output begins
pub given_refused : {W : Type 0} (tells : Type 0) (did : W → Call → W → Type 0) (h : Sight W) (i : ℕ) (args : List Word) (mem : MemoryForm) (h' : Sight W)
    (mem' : MemoryForm) (out : List Action) → given_meaning tells did h i args mem told.NoMemory h' mem' out → GoesOn (given_meaning tells did) h i args mem out
given_refused tells did h i args mem h' mem' out m = refused_by tells did i args mem mem' out h h.tables h'.tables m.0
