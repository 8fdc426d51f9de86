-- Programs of which one is the other rewritten, with names that stand for the same places and operations that do the same.
use Rattle.std.specs.Prelude.{◌≡◌, ℕ, List, map}
use Rattle.awk_values.specs.declared.value.Value.{Value}
use Rattle.mid_program.specs.declared.mid.Operation.{Operation}
use Rattle.sem_scripts.specs.Meaning.{Calls}
use Rattle.sem_scripts.specs.ScriptState.{State}
use Rattle.mid_program.specs.Mid.{Kind, Slot, Code, Do, Codes, Program, Form, PrimitiveAnswer, answer_by, slot_form, form_of, parameters_at}
use Rattle.mid_program.specs.MidMeaning.{Env, read_slot, store_slot, evaluated, routine_at, global_name, routine_name}
use Rattle.mid_program.specs.Sorted.{calls_of}
use Rattle.mid_program.specs.Alike.{Alike, LikeR, AlikeKinds}
use Rattle.mid_program.specs.Rewriting.{steps_in}

-- names that stand for the same places
pub record SameSlots (slots : Slot → Slot) : Type 0 where
  pub reads : (x : Slot) (s : State) → LikeR (Alike (slot_form x) (slot_form (slots x))) (read_slot x s) (read_slot (slots x) s)
  pub stores : (x : Slot) (v : Value) → store_slot x v ≡ store_slot (slots x) v

-- code that does what the operation does
abbrev pub SameOperations : List (List ℕ) → List (List Kind) → ℕ → Calls → (Operation → Codes → Code) → Type 0
SameOperations texts qs n calls operation =
    (gs : List Form) (env : Env gs) (o : Operation) (es : Codes) (s : State) →
    LikeR (Alike (PrimitiveAnswer (answer_by o)) (form_of gs (operation o es))) (evaluated texts qs n calls gs env (Do o es) s)
    (evaluated texts qs n calls gs env (operation o es) s)

pub record Rewritten (p q : Program) : Type 0 where
  pub operation : Operation → Codes → Code
  -- what becomes of the names in each function, and in what stands in none
  pub slots : ℕ → Slot → Slot
  pub main_slots : Slot → Slot
  pub same_slots : (f : ℕ) → SameSlots (slots f)
  pub same_main : SameSlots main_slots
  pub same_operations : (n : ℕ) (calls : Calls) → SameOperations p.texts (calls_of q) n calls operation
  pub texts : p.texts ≡ q.texts
  pub heads : (f : ℕ) → AlikeKinds (parameters_at (calls_of p) f) (parameters_at (calls_of q) f)
  pub names : map global_name p.globals ≡ map global_name q.globals
  pub functions : map routine_name p.routines ≡ map routine_name q.routines
  pub bodies : (f : ℕ) → steps_in (slots f) operation (routine_at p.routines f).body ≡ (routine_at q.routines f).body
  pub begin : steps_in main_slots operation p.begin ≡ q.begin
  pub reads : p.reads ≡ q.reads
  pub items : steps_in main_slots operation p.items ≡ q.items
  pub end : steps_in main_slots operation p.end ≡ q.end
