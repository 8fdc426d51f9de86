-- A program with other lanes at its names runs as before.
use Rattle.std.proofs.Common.{◌≡◌, ℕ, zero, suc, Bool, true, false, List, [], ◌∷◌, map, refl, ap}
use Rattle.awk_values.specs.declared.value.Value.{Value}
use Rattle.sem_scripts.specs.Meaning.{Calls}
use Rattle.mid_program.specs.Mid.{Kind, Boxed, Unboxed, ArrayKind, Slot, Global, Parameter, Do, Declared, Routine, Program, read_form, slot_form, parameters_at}
use Rattle.mid_program.specs.MidMeaning.{read_as, read_slot, store_slot, routine_at, global_name, routine_name}
use Rattle.sem_scripts.specs.Names.{Name}
use Rattle.sem_scripts.specs.ScriptState.{State, global_value, local_value}
use Rattle.mid_program.specs.Sorted.{calls_of, is_many}
use Rattle.mid_program.specs.Alike.{Alike, AlikeKinds, LikeR}
use Rattle.mid_program.specs.Rewritten.{SameSlots, SameOperations, Rewritten}
use Rattle.mid_program.specs.SameRuns.{SameRuns}
use Rattle.mid_program.proofs.Outcomes.{like_self}
use Rattle.mid_program.proofs.Runs.{runs_same}
use Rattle.value_kinds.specs.Lanes.{Lanes}
use Rattle.value_kinds.specs.Applied.{is_unboxed, slot_in, kind_with, kinds_with, globals_with, steps_with, routines_with, apply}

-- a value is read from a name of either lane
read_alike : (u b : Bool) (v : Value) → Alike (read_form u) (read_form b) (read_as u v) (read_as b v)
read_alike true true v = refl
read_alike true false v = refl
read_alike false true v = refl
read_alike false false v = refl

reads_alike : (gs ps : List Kind) (x : Slot) (s : State) → LikeR (Alike (slot_form x) (slot_form (slot_in gs ps x))) (read_slot x s) (read_slot (slot_in gs ps x) s)
reads_alike gs ps (Global u i) s = (read_alike u (is_unboxed gs i) (global_value i s), refl)
reads_alike gs ps (Parameter u i) s = (read_alike u (is_unboxed ps i) (local_value i s), refl)

pub same_places : (gs ps : List Kind) → SameSlots (slot_in gs ps)
same_places gs ps = record { reads = reads_alike gs ps; stores = λ x v. stores_alike x v }
  where
    stores_alike : (x : Slot) (v : Value) → store_slot x v ≡ store_slot (slot_in gs ps x) v
    stores_alike (Global u i) v = refl
    stores_alike (Parameter u i) v = refl

pub same_many : (u : Bool) (k : Kind) → is_many k ≡ is_many (kind_with u k)
same_many u ArrayKind = refl
same_many true Boxed = refl
same_many false Boxed = refl
same_many true Unboxed = refl
same_many false Unboxed = refl

kinds_alike : (u : ℕ → Bool) (ks : List Kind) → AlikeKinds ks (kinds_with u ks)
kinds_alike u [] = tt
kinds_alike u (k ∷ ks) = (same_many (u zero) k, kinds_alike (λ i. u (suc i)) ks)

pub heads_alike : (gs : List Kind) (ps : ℕ → List Kind) (rs : List Routine) (f : ℕ) →
    AlikeKinds (parameters_at (map (λ (r : Routine). r.parameters) rs) f) (parameters_at (map (λ (r : Routine). r.parameters) (routines_with gs ps rs)) f)
heads_alike gs ps [] f = tt
heads_alike gs ps (r ∷ rs) zero = kinds_alike (is_unboxed (ps zero)) r.parameters
heads_alike gs ps (r ∷ rs) (suc f) = heads_alike gs (λ i. ps (suc i)) rs f

pub names_kept : (u n : ℕ → Bool) (ds : List Declared) → map global_name ds ≡ map global_name (globals_with u n ds)
names_kept u n [] = refl
names_kept u n (d ∷ ds) = λ i. record { name = d.name; is_array = same_many (u zero) d.kind i } ∷ names_kept (λ i. u (suc i)) (λ i. n (suc i)) ds i

pub functions_kept : (gs : List Kind) (ps : ℕ → List Kind) (rs : List Routine) → map routine_name rs ≡ map routine_name (routines_with gs ps rs)
functions_kept gs ps [] = refl
functions_kept gs ps (r ∷ rs) = ap (λ (ns : List Name). routine_name r ∷ ns) (functions_kept gs (λ f. ps (suc f)) rs)

bodies_kept : (gs : List Kind) (ps : ℕ → List Kind) (rs : List Routine) (f : ℕ) → steps_with gs (ps f) (routine_at rs f).body ≡ (routine_at (routines_with gs ps rs) f).body
bodies_kept gs ps [] f = refl
bodies_kept gs ps (r ∷ rs) zero = refl
bodies_kept gs ps (r ∷ rs) (suc f) = bodies_kept gs (λ i. ps (suc i)) rs f

pub operations_stay : (texts : List (List ℕ)) (qs : List (List Kind)) (n : ℕ) (calls : Calls) → SameOperations texts qs n calls Do
operations_stay texts qs n calls gs env o es s = like_self _ (λ a. refl) _

abbrev rewritten : (l : Lanes) (p : Program) → Rewritten p (apply l p)
rewritten l p = record {
  operation = Do;
  slots = λ f. slot_in l.globals (parameters_at l.parameters f);
  main_slots = slot_in l.globals [];
  same_slots = λ f. same_places l.globals (parameters_at l.parameters f);
  same_main = same_places l.globals [];
  same_operations = operations_stay p.texts (calls_of (apply l p));
  texts = refl;
  heads = heads_alike l.globals (parameters_at l.parameters) p.routines;
  names = names_kept (is_unboxed l.globals) (is_unboxed l.numbers) p.globals;
  functions = functions_kept l.globals (parameters_at l.parameters) p.routines;
  bodies = bodies_kept l.globals (parameters_at l.parameters) p.routines;
  begin = refl;
  reads = refl;
  items = refl;
  end = refl;
}

pub applies : (l : Lanes) (p : Program) → SameRuns (apply l p) p
applies l p = runs_same p (apply l p) (rewritten l p)
