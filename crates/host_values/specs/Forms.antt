-- What the host's own tables show of a state of the definition. Numbers of arrays and iterators are given again there, and what was freed is gone; in the
-- state that a script and its host share, lists of arrays and iterators only grow.
use Rattle.std.specs.Prelude.{◌≡◌, ℕ, ℤ, pos, List, Option, Some, None, slice_get}
use Rattle.std.specs.Ordering.{int_cmp}
use Rattle.std.specs.FinMap as map
use Rattle.std.specs.FinMap.{FinMap}
use Rattle.awk_values.specs.declared.fault.Fault.{Fault}
use Rattle.awk_values.specs.declared.value.Value.{Value}
use Rattle.world_core.specs.WorldState.{Source}
use Rattle.sem_primitives.specs.SharedState.{Pairs, Shared, Inner, MainInput}
use Rattle.host_step.specs.HostState.{HostState}
use Rattle.host_values.specs.Evaluations.{Values}

abbrev pub Arrays : Type 0
Arrays = FinMap int_cmp Pairs

-- the keys that an iterator has left
abbrev pub Keys : Type 0
Keys = List (List ℕ)

abbrev pub Iterators : Type 0
Iterators = FinMap int_cmp Keys

-- What the files that are read, by their names, and the main input have left where others change what names hold too: there nothing is known of what is to
-- come, so what a reader keeps, and how far it is, tells all.
pub record Coming : Type 0 where
  pub readers : List (List ℕ × Source)
  pub main : MainInput

-- The host as its tables have it: values, arrays and iterators by their numbers; all else that a script and its host share, where the lists of arrays and
-- iterators are not looked at; what readers have left where others change what they read; the argument list; the fault that is kept.
pub record HostForm : Type 0 where
  pub values : Values
  pub arrays : Arrays
  pub iterators : Iterators
  pub shared : Shared
  pub coming : Coming
  pub arguments : List Value
  pub fault : Option Fault

-- What the tables do not show: every array and every iterator that there ever was, and where in these lists stands what a number stands for.
pub record Past : Type 0 where
  pub array_places : FinMap int_cmp ℕ
  pub arrays : List Pairs
  pub iterator_places : FinMap int_cmp ℕ
  pub iterators : List Keys

-- the shared state with these lists
abbrev pub inner_of : Inner → List Pairs → List Keys → Inner
inner_of inner arrays iterators = record inner { arrays = arrays; iterators = iterators }

-- the state of both
abbrev pub state_of : HostForm → Past → HostState
state_of f p = record {
  names = record { values = map.entries f.values; arrays = map.entries p.array_places; iterators = map.entries p.iterator_places };
  shared = record f.shared { inner = inner_of f.shared.inner p.arrays p.iterators };
  arguments = f.arguments;
  fault = f.fault;
}

-- at a place of a list stands what is held, or there is neither
abbrev pub Shows : {A : Type 0} → List A → Option ℕ → Option A → Type 0
Shows all None None = Unit {0}
Shows all (Some n) (Some x) = slice_get all n ≡ Some x
Shows all _ _ = ⊥

-- Each number that holds something has a place in the list, where this stands, and no two numbers have one place.
pub record IsHeld {A : Type 0} (held : FinMap int_cmp A) (places : FinMap int_cmp ℕ) (all : List A) : Type 0 where
  pub shows : (q : ℤ) → Shows all (map.get places q) (map.get held q)
  pub apart : (q r : ℤ) (n : ℕ) → map.get places q ≡ Some n → map.get places r ≡ Some n → q ≡ r

-- ARGV and ENVIRON are 0 and 1 here and there
pub record AreFirst (places : FinMap int_cmp ℕ) : Type 0 where
  pub argv : map.get places (pos 0) ≡ Some 0
  pub environ : map.get places (pos 1) ≡ Some 1

-- the tables show this state
pub record Stands (f : HostForm) (s : HostState) : Type 0 where
  pub past : Past
  pub state : s ≡ state_of f past
  pub arrays : IsHeld f.arrays past.array_places past.arrays
  pub iterators : IsHeld f.iterators past.iterator_places past.iterators
  pub first : AreFirst past.array_places
