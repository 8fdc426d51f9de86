-- What files, and the standard output, hold after output (POSIX.1-2017 awk, "Output Statements").
use Rattle.std.specs.Prelude.{◌≡◌, ℕ, Bool, true, false, if◌then◌else◌, List, [], ◌∷◌, ◌++◌, Ok}
use Rattle.world_core.specs.WorldState.{Outside, Target, Standard, Named, bytes_of, same_target}
use Rattle.sem_primitives.specs.SharedState.{Inner, Shared, shared_after}
use Rattle.sem_primitives.specs.OutputMeaning.{is_writing, put_text}
use Rattle.sem_primitives.specs.declared.constants.Destination.{Destination}
use Rattle.sem_primitives.specs.declared.constants.Destination.TheVariants as destination

-- a text that is printed: to the standard output, or with `>` or `>>` to a name
pub record Print : Type 0 where
  pub to : Destination
  pub name : List ℕ
  pub text : List ℕ

abbrev pub target_by : Destination → List ℕ → Target
target_by destination.Standard name = Standard
target_by destination.Emptied name = Named name
target_by destination.Appended name = Named name

abbrev pub target : Print → Target
target p = target_by p.to p.name

-- prints one after another, of which none faults
pub data Succeed : List Print → Shared → Shared → Type 0 where
  no_more : {state : Shared} → Succeed [] state state
  one_more : {rest : List Print} {state end : Shared} (p : Print) → (put_text p.to p.name p.text state).answer ≡ Ok tt
      → Succeed rest (shared_after state (put_text p.to p.name p.text state)) end → Succeed (p ∷ rest) state end

abbrev pub held : Outside → Target → List ℕ
held outside t = bytes_of (outside t).bytes

-- the standard output is open from the beginning
abbrev pub is_open : Inner → Target → Bool
is_open inner Standard = true
is_open inner (Named name) = is_writing name inner.writers

-- `>` empties what it opens
abbrev pub opened_as : Destination → List ℕ → List ℕ
opened_as destination.Emptied old = []
opened_as to old = old

-- what output is added to: what was held before, or what the first print to the target makes of it where it opens it
abbrev pub base : Bool → Target → List Print → List ℕ → List ℕ
base true t prints old = old
base false t [] old = old
base false t (p ∷ rest) old = if same_target (target p) t then opened_as p.to old else base false t rest old

-- all that was printed to a target
abbrev pub texts_to : Target → List Print → List ℕ
texts_to t [] = []
texts_to t (p ∷ rest) = (if same_target (target p) t then p.text else []) ++ texts_to t rest
