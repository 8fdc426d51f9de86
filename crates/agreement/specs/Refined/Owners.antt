-- How many places own a number: each number that stands for something has one owner, and each other number none.
use Rattle.std.specs.Prelude.{ℕ, ◌+◌, ◌≡◌, pos, nat_eq, nat_lt, Bool, true, false, ◌&&◌, cond, List, [], ◌∷◌, length, Option, Some, None}
use Rattle.sem_primitives.specs.declared.sorts.Sort.{Sort}
use Rattle.sem_primitives.specs.declared.sorts.Sort.TheVariants as sort
use Rattle.wasm_store.specs.declared.word.Word.{Word}
use Rattle.wasm_store.specs.declared.word.Word.TheVariants.{I32, I64}
use Rattle.wasm_model.specs.Machines.{CallerForm}
use Rattle.host_step.specs.HostState.{Names}
use Rattle.host_step.specs.Tables.{look}
use Rattle.lower_model.specs.Cells.{Cell, Held, IteratorOf, OwnedArray}
use Rattle.lower_model.specs.Machine.{Frame}

abbrev pub owns_sort : Sort → Cell → Bool
owns_sort sort.Value (Held v) = true
owns_sort sort.Array (OwnedArray a) = true
owns_sort sort.Iterator (IteratorOf t) = true
owns_sort _ _ = false

-- 1 where a cell with this word owns number q, else 0
abbrev pub owner : Sort → ℕ → Cell → Word → ℕ
owner s q c (I32 n) = cond (owns_sort s c && nat_eq q n) 1 0
owner s q c (I64 n) = 0

abbrev pub owners : Sort → ℕ → List Cell → List Word → ℕ
owners s q (c ∷ cs) (w ∷ ws) = owner s q c w + owners s q cs ws
owners s q _ _ = 0

-- in the locals of callers that wait; nothing that is owned is on their stacks
abbrev pub waiting : Sort → ℕ → List Frame → List CallerForm → ℕ
waiting s q (f ∷ F) (r ∷ rs) = owners s q f.locals r.frame.locals + waiting s q F rs
waiting s q _ _ = 0

-- how many places callers that wait have: their locals
abbrev pub places_in : List CallerForm → ℕ
places_in [] = 0
places_in (r ∷ rs) = length r.frame.locals + places_in rs

abbrev pub there : {A : Type 0} → Option A → ℕ
there None = 0
there (Some x) = 1

-- how many owners a number is to have; ARGV and ENVIRON are the host's own
abbrev pub wanted : Names → Sort → ℕ → ℕ
wanted N sort.Value q = there (look N.values (pos q))
wanted N sort.Number q = 0
wanted N sort.Array q = cond (nat_lt q 2) 0 (there (look N.arrays (pos q)))
wanted N sort.Iterator q = there (look N.iterators (pos q))

-- the owners among operands, locals, globals and callers' locals
abbrev pub OwnedOnce : Names → List Cell → List Word → List Cell → List Word → List Cell → List Word → List Frame → List CallerForm → Type 0
OwnedOnce N vs ws L ls G gs F rs = (s : Sort) (q : ℕ) → owners s q vs ws + (owners s q L ls + (owners s q G gs + waiting s q F rs)) ≡ wanted N s q
