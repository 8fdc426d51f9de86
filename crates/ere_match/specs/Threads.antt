-- Sets of threads: for each node the least start from which a thread has come to it.
use Rattle.std.specs.Prelude.{◌≡◌, ℕ, ◌+◌, ◌<◌, ◌≤◌, ◌⊎◌, Bool, true, false, List, [], ◌∷◌, length, slice_get, slice_index_or, nat_le, if◌then◌else◌, Option, Some, None}
use Rattle.ere_match.specs.declared.node.Node.{Node}
use Rattle.ere_match.specs.declared.node.Node.TheVariants as nodes
use Rattle.ere_match.specs.Runs.{filter_set, Runs}

-- a thread from this start has come to this node
pub record Holds (set : List (Option ℕ)) (id start : ℕ) : Type 0 where
  pub is : slice_get set id ≡ Some (Some start)

-- one from this start or an earlier one
pub record HoldsBy (set : List (Option ℕ)) (id start : ℕ) : Type 0 where
  pub first : ℕ
  pub early : first ≤ start
  pub holds : Holds set id first

-- the place is the first of the text where this is said of it, and the last where that is
pub record IsNear (text : List ℕ) (i : ℕ) (first last : Bool) : Type 0 where
  pub is_first : first ≡ true → i ≡ 0
  pub is_last : last ≡ true → i ≡ length text

-- it is said of it where it is so
pub record IsAt (text : List ℕ) (i : ℕ) (first last : Bool) : Type 0 where
  pub near : IsNear text i first last
  pub first_is : i ≡ 0 → first ≡ true
  pub last_is : i ≡ length text → last ≡ true

-- where a node leads without a byte
abbrev pub LeadsTo : Bool → Bool → Option Node → ℕ → Type 0
LeadsTo first last (Some (nodes.Split a b)) to = (to ≡ a) ⊎ (to ≡ b)
LeadsTo first last (Some (nodes.Start a)) to = (first ≡ true) × (to ≡ a)
LeadsTo first last (Some (nodes.End a)) to = (last ≡ true) × (to ≡ a)
LeadsTo first last other to = ⊥

-- where a node leads by a byte
abbrev pub Takes : ℕ → Option Node → ℕ → Type 0
Takes byte (Some (nodes.Take f a)) to = (slice_get (filter_set f) byte ≡ Some true) × (to ≡ a)
Takes byte other to = ⊥

-- starts below the bound cost themselves, no start costs the bound
abbrev pub cost : ℕ → List (Option ℕ) → ℕ
cost bound [] = 0
cost bound (None ∷ xs) = bound + cost bound xs
cost bound (Some s ∷ xs) = s + cost bound xs

-- a start that is less than what is there
abbrev pub IsLess : ℕ → ℕ → Option ℕ → Type 0
IsLess bound s None = s < bound
IsLess bound s (Some b) = s < b

-- what is there is no later than the start
abbrev pub IsCovered : Option ℕ → ℕ → Type 0
IsCovered None s = ⊥
IsCovered (Some b) s = b ≤ s

pub record IsWithin (old new : List (Option ℕ)) : Type 0 where
  pub at : (id s : ℕ) → Holds old id s → HoldsBy new id s

-- one thread more
pub record IsMarked (bound id start : ℕ) (old new : List (Option ℕ)) (added : Bool) : Type 0 where
  pub len : length new ≡ length old
  pub within : IsWithin old new
  pub here : id < length old → HoldsBy new id start
  pub only : (k s : ℕ) → Holds new k s → Holds old k s ⊎ ((k ≡ id) × (s ≡ start))
  pub quiet : added ≡ false → new ≡ old
  pub fewer : cost bound new ≤ cost bound old
  pub less : added ≡ true → cost bound new < cost bound old

-- threads at nodes not before n were there before
pub record IsKeptFrom (n : ℕ) (old new : List (Option ℕ)) : Type 0 where
  pub at : (id s : ℕ) → n ≤ id → Holds new id s → Holds old id s

-- one thread more, and whether it is a new one at a node not before n
pub record IsRaised (n bound id start : ℕ) (old new : List (Option ℕ)) (added : Bool) : Type 0 where
  pub len : length new ≡ length old
  pub within : IsWithin old new
  pub here : id < length old → HoldsBy new id start
  pub only : (k s : ℕ) → Holds new k s → Holds old k s ⊎ ((k ≡ id) × (s ≡ start))
  pub quiet : added ≡ false → IsKeptFrom n old new
  pub fewer : cost bound new ≤ cost bound old
  pub less : added ≡ true → cost bound new < cost bound old

-- one thread more, if there was no earlier one
pub record IsSeeded (id start : ℕ) (old new : List (Option ℕ)) : Type 0 where
  pub len : length new ≡ length old
  pub within : IsWithin old new
  pub here : id < length old → HoldsBy new id start
  pub only : (k s : ℕ) → Holds new k s → Holds old k s ⊎ ((k ≡ id) × (s ≡ start))

-- the threads of node n were led on
pub record IsFollowed (first last : Bool) (bound n start : ℕ) (node : Node) (old new : List (Option ℕ)) (added : Bool) : Type 0 where
  pub len : length new ≡ length old
  pub within : IsWithin old new
  pub all_in : (to : ℕ) → LeadsTo first last (Some node) to → to < length old → HoldsBy new to start
  pub only : (k s : ℕ) → Holds new k s → Holds old k s ⊎ (LeadsTo first last (Some node) k × (s ≡ start))
  pub quiet : added ≡ false → IsKeptFrom n old new
  pub fewer : cost bound new ≤ cost bound old
  pub less : added ≡ true → cost bound new < cost bound old

-- what runs from the new set at such a place runs from the old, with the same start
pub record IsFrom (all : List Node) (first last : Bool) (old new : List (Option ℕ)) : Type 0 where
  pub at : (text : List ℕ) (i : ℕ) → IsNear text i first last → (j n id s : ℕ) → Holds new id s → Runs all text j n id i → (m : ℕ) × (from : ℕ)
      × Holds old from s × Runs all text j m from i

-- each start of the new set is one of the old
pub record AreStarts (old new : List (Option ℕ)) : Type 0 where
  pub at : (id s : ℕ) → Holds new id s → (k : ℕ) × Holds old k s

-- a node's threads have been led on
abbrev pub IsLed : List Node → Bool → Bool → List (Option ℕ) → ℕ → Type 0
IsLed all first last set id = (to s : ℕ) → Holds set id s → LeadsTo first last (slice_get all id) to → to < length set → HoldsBy set to s

-- those of all nodes not below n
pub record IsClosedFrom (all : List Node) (first last : Bool) (n : ℕ) (set : List (Option ℕ)) : Type 0 where
  pub at : (id : ℕ) → n ≤ id → id < length set → IsLed all first last set id

pub record IsVisited (all : List Node) (first last : Bool) (bound id : ℕ) (old new : List (Option ℕ)) (added : Bool) : Type 0 where
  pub len : length new ≡ length old
  pub within : IsWithin old new
  pub from : IsFrom all first last old new
  pub starts : AreStarts old new
  pub quiet : added ≡ false → IsKeptFrom id old new
  pub closed : added ≡ false → IsLed all first last new id
  pub fewer : cost bound new ≤ cost bound old
  pub less : added ≡ true → cost bound new < cost bound old

pub record IsPassed (all : List Node) (first last : Bool) (bound n : ℕ) (old new : List (Option ℕ)) (added : Bool) : Type 0 where
  pub len : length new ≡ length old
  pub within : IsWithin old new
  pub from : IsFrom all first last old new
  pub starts : AreStarts old new
  pub closed : added ≡ false → IsClosedFrom all first last n new
  pub fewer : cost bound new ≤ cost bound old
  pub less : added ≡ true → cost bound new < cost bound old

-- the set with all that it leads to without a byte
pub record IsClosure (all : List Node) (first last : Bool) (old new : List (Option ℕ)) : Type 0 where
  pub len : length new ≡ length old
  pub within : IsWithin old new
  pub from : IsFrom all first last old new
  pub starts : AreStarts old new
  pub closed : IsClosedFrom all first last 0 new

-- new is old with what one node leads to by the byte
pub record IsAdvanced (all : List Node) (byte id : ℕ) (set old new : List (Option ℕ)) : Type 0 where
  pub len : length new ≡ length old
  pub within : IsWithin old new
  pub into : (to s : ℕ) → Holds set id s → Takes byte (slice_get all id) to → to < length all → HoldsBy new to s
  pub only : (to s : ℕ) → Holds new to s → Holds old to s ⊎ (Holds set id s × Takes byte (slice_get all id) to)

-- new has what the threads at nodes below n lead to by the byte
pub record IsStepped (all : List Node) (byte n : ℕ) (set new : List (Option ℕ)) : Type 0 where
  pub len : length new ≡ length all
  pub into : (id to s : ℕ) → id < n → Holds set id s → Takes byte (slice_get all id) to → to < length all → HoldsBy new to s
  pub only : (to s : ℕ) → Holds new to s → (id : ℕ) × Holds set id s × Takes byte (slice_get all id) to

-- where a node leads by a byte
abbrev pub IsTarget : Node → ℕ → Option ℕ → Type 0
IsTarget (nodes.Take f a) byte found = ((slice_index_or (filter_set f) byte false ≡ true) × (found ≡ Some a))
    ⊎ ((slice_index_or (filter_set f) byte false ≡ false) × (found ≡ None))
IsTarget other byte found = found ≡ None

abbrev pub AcceptNode : Node
AcceptNode = nodes.Accept

abbrev pub SpecNode : Type 0
SpecNode = Node

-- the lesser of two starts
abbrev pub least_of : Option ℕ → Option ℕ → Option ℕ
least_of None other = other
least_of (Some a) None = Some a
least_of (Some a) (Some b) = if nat_le a b then Some a else Some b

-- the least start at an accepting node below n
abbrev pub IsAccepted : List Node → List (Option ℕ) → ℕ → Option ℕ → Type 0
IsAccepted all set n None = (id s : ℕ) → id < n → Holds set id s → slice_get all id ≡ Some nodes.Accept → ⊥
IsAccepted all set n (Some f) = ((k : ℕ) × Holds set k f × (slice_get all k ≡ Some nodes.Accept))
    × ((id s : ℕ) → id < n → Holds set id s → slice_get all id ≡ Some nodes.Accept → f ≤ s)

-- a thread from this start runs on to an accepting node at j
pub record SetRuns (all : List Node) (text : List ℕ) (j i : ℕ) (set : List (Option ℕ)) (s : ℕ) : Type 0 where
  pub steps : ℕ
  pub id : ℕ
  pub holds : Holds set id s
  pub run : Runs all text j steps id i

-- the least start, and its greatest end, of the runs that end below n
abbrev pub IsBest : List Node → List ℕ → ℕ → ℕ → ℕ → Option (ℕ × ℕ) → Type 0
IsBest all text entry from n None = (s j m : ℕ) → from ≤ s → j < n → Runs all text j m entry s → ⊥
IsBest all text entry from n (Some p) = (from ≤ p.0) × (p.0 ≤ length text) × (p.1 < n) × (p.0 ≤ p.1) × ((m : ℕ) × Runs all text p.1 m entry p.0)
    × ((s j m : ℕ) → from ≤ s → j < n → Runs all text j m entry s → (p.0 ≤ s) × (s ≡ p.0 → j ≤ p.1))

-- a start that may still be the first
abbrev pub IsOpen : Option (ℕ × ℕ) → ℕ → Type 0
IsOpen None s = Unit {0}
IsOpen (Some p) s = s ≤ p.0

-- the set stands for the runs from starts below n that have come to place i
pub record AreThreads (all : List Node) (text : List ℕ) (entry from i n : ℕ) (set : List (Option ℕ)) (best : Option (ℕ × ℕ)) : Type 0 where
  pub len : length set ≡ length all
  pub starts : (id s : ℕ) → Holds set id s → (from ≤ s) × (s ≤ i)
  pub back : (j s : ℕ) → SetRuns all text j i set s → (m : ℕ) × Runs all text j m entry s
  pub on : (s j m : ℕ) → from ≤ s → s < n → i ≤ j → IsOpen best s → Runs all text j m entry s → (t : ℕ) × (t ≤ s) × SetRuns all text j i set t

-- the least start and its greatest end, with the least start that is accepted at this place
abbrev pub better_of : Option ℕ → ℕ → Option (ℕ × ℕ) → Option (ℕ × ℕ)
better_of None at best = best
better_of (Some s) at None = Some (s, at)
better_of (Some s) at (Some p) = if nat_le s p.0 then Some (s, at) else Some p

-- the threads of a place, led on as far as they go, and the best of the runs that end there or before
pub record IsSettled (all : List Node) (text : List ℕ) (entry from i : ℕ) (first last : Bool) (set : List (Option ℕ)) (found : Option (ℕ × ℕ)) : Type 0 where
  pub threads : AreThreads all text entry from i (i + 1) set found
  pub best : IsBest all text entry from (i + 1) found
  pub closed : IsClosedFrom all first last 0 set
