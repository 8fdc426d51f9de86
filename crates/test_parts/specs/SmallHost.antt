-- A small host: it knows its imports by the length of their names, and may answer anything of their type.
use Rattle.std.specs.Prelude.{ℕ, ◌≡◌, List, [], ◌∷◌, length, Option, Some, None, nat_eq, if◌then◌else◌, refl}
use Rattle.std.proofs.Common.{subst, ap, ◌++◌}
use Rattle.wasm_types.specs.declared.types.ValType.TheVariants as ty
use Rattle.wasm_types.specs.Syntax.{Signature}
use Rattle.wasm_store.specs.declared.word.Word.{Word}
use Rattle.wasm_store.specs.Memories.{MemoryForm}
use Rattle.wasm_model.specs.declared.host.HostAnswer.{HostAnswer}
use Rattle.wasm_model.specs.declared.host.HostAnswer.TheVariants.{Trap, NoMemory}
use Rattle.wasm_store.specs.declared.trap.TrapKind.TheVariants.{BadArgument}
use Rattle.wasm_model.specs.Hosts.{Typed}
use Rattle.wasm_model.specs.HostAnswers.{GoesOn}

abbrev pub takes : Signature
takes = record { params = ty.I32 ∷ []; result = None }

abbrev pub gives : Signature
gives = record { params = ty.I32 ∷ []; result = Some ty.I32 }

abbrev pub answers : Signature
answers = record { params = []; result = Some ty.I32 }

abbrev pub small_types : ℕ → Option Signature
small_types i = if nat_eq i 4 then Some takes else if nat_eq i 5 then Some gives else if nat_eq i 6 then Some takes else
    if nat_eq i 7 then Some answers else None

-- an import's number is the length of its name
abbrev pub with_number : ℕ → Option Signature → Option (ℕ × Signature)
with_number n None = None
with_number n (Some t) = Some (n, t)

abbrev pub small_finds : List ℕ → List ℕ → Option (ℕ × Signature)
small_finds from name = with_number (length name) (small_types (length name))

numbered : (n : ℕ) (o : Option Signature) (r : ℕ × Signature) → small_types n ≡ o → with_number n o ≡ Some r → small_types r.0 ≡ Some r.1
numbered n None r e h = cc
numbered n (Some t) r e h = subst (λ (x : ℕ × Signature). small_types x.0 ≡ Some x.1) (some_same (n, t) r h) e where
  some_same : (x y : ℕ × Signature) → Some x ≡ Some y → x ≡ y
  some_same x y q = cc

pub small_found : (from name : List ℕ) (r : ℕ × Signature) → small_finds from name ≡ Some r → small_types r.0 ≡ Some r.1
small_found from name r e = numbered (length name) (small_types (length name)) r refl e

abbrev pub small_meaning : ℕ → ℕ → List Word → MemoryForm → HostAnswer → ℕ → MemoryForm → List ℕ → Type 0
small_meaning h i args mem a h' mem' out = Typed (small_types i) a × (mem' ≡ mem) × (out ≡ [])

pub small_typed : (h : ℕ) (i : ℕ) (args : List Word) (mem : MemoryForm) (a : HostAnswer) (h' : ℕ) (mem' : MemoryForm) (out : List ℕ)
    → small_meaning h i args mem a h' mem' out → Typed (small_types i) a
small_typed h i args mem a h' mem' out m = m.0

-- it writes nothing, and could have trapped
pub small_refused : (h : ℕ) (i : ℕ) (args : List Word) (mem : MemoryForm) (h' : ℕ) (mem' : MemoryForm) (out : List ℕ)
    → small_meaning h i args mem NoMemory h' mem' out → GoesOn small_meaning h i args mem out
small_refused h i args mem h' mem' out m = (Trap BadArgument, (λ e. cc), h', mem', [], (by_type (small_types i), m.1, ap (λ (o : List ℕ). o ++ []) m.2)) where
  by_type : (s : Option Signature) → Typed s (Trap BadArgument)
  by_type None = tt
  by_type (Some t) = tt
