-- Which names are unboxed: a scalar into which the script stores numbers alone, as arguments too, and a global into which it stores copies of such
-- scalars besides. What the command line assigns to a global stays a text until then, and so does a copy of it. A parameter is unboxed too where a global
-- lends its value: it is given numbers, or copies of that global, into which code stores nothing.
use Rattle.std.specs.Prelude.{ℕ, zero, suc, Bool, true, false, not, ◌&&◌, ◌||◌, nat_eq, List, [], ◌∷◌, length, get_or, set, replicate, Option, Some, None, is_some, map}
use Rattle.mid_program.specs.Mid.{Kind, Boxed, Unboxed, ArrayKind, Slot, Global, Parameter, Routine, Program, Form, OptionalNumber, parameters_at}
use Rattle.mid_program.specs.Sorted.{has_kind, is_number, lender_at, kinds_of, calls_of}
use Rattle.mid_program.specs.Stores.{Store, Into, Given, Asked, steps_stores}

-- by the numbers of the globals, and for each function by those of its parameters. An unboxed global has a boxed twin, since the command line may
-- give it a text; an unboxed parameter is a number, or nothing yet
pub record Lanes : Type 0 where
  -- the globals into which numbers alone are stored
  pub numbers : List Kind
  pub globals : List Kind
  pub parameters : List (List Kind)
  -- by the places of parameters, the global that lends its value there
  pub lenders : List (Option ℕ)

-- at first each scalar is unboxed
abbrev pub opened : Kind → Kind
opened ArrayKind = ArrayKind
opened Boxed = Unboxed
opened Unboxed = Unboxed

-- a scalar is boxed
abbrev pub closed : Kind → Kind
closed ArrayKind = ArrayKind
closed Boxed = Boxed
closed Unboxed = Boxed

abbrev pub close_at : List Kind → ℕ → List Kind
close_at [] i = []
close_at (k ∷ ks) zero = closed k ∷ ks
close_at (k ∷ ks) (suc i) = k ∷ close_at ks i

abbrev pub close_in : List (List Kind) → ℕ → ℕ → List (List Kind)
close_in [] f i = []
close_in (ks ∷ kss) zero i = close_at ks i ∷ kss
close_in (ks ∷ kss) (suc f) i = ks ∷ close_in kss f i

-- All stores of a program, one after the other, each with the function in which its code stands.

abbrev pub function_count : List Routine → ℕ
function_count [] = 0
function_count (r ∷ rs) = suc (function_count rs)

module _ {A : Type 0} (visit : ℕ → A → Store → A) where
  abbrev pub all_visited : ℕ → A → List Store → A
  all_visited g a [] = a
  all_visited g a (s ∷ ss) = all_visited g (visit g a s) ss

  -- the functions from the g-th on
  abbrev pub routines_visited : ℕ → A → List Routine → A
  routines_visited g a [] = a
  routines_visited g a (r ∷ rs) = routines_visited (suc g) (all_visited g a (steps_stores r.body)) rs

  -- BEGIN, the items and END stand in no function
  abbrev pub visited : A → Program → A
  visited a p =
      let none = function_count p.routines in
      all_visited none (all_visited none (all_visited none (routines_visited 0 a p.routines) (steps_stores p.begin)) (steps_stores p.items)) (steps_stores p.end)

-- The walk that boxes names.

-- a number, or nothing, which a missing argument is
abbrev pub is_plain : Form → Bool
is_plain OptionalNumber = true
is_plain f = is_number f

abbrev pub copies_global : ℕ → Option Slot → Bool
copies_global g None = false
copies_global g (Some (Global u i)) = nat_eq g i
copies_global g (Some (Parameter u i)) = false

-- an argument for an unboxed parameter: a number or nothing, or, where a global lends its value, a number or a copy of that
abbrev pub is_passed : Option ℕ → Option Slot → Form → Bool
is_passed None o f = is_plain f
is_passed (Some g) o f = is_number f || copies_global g o

abbrev pub unless : Bool → Lanes → Lanes → Lanes
unless true l m = l
unless false l m = m

-- a name whose value is copied: whether it is one of those that are unboxed in n; the code stands in the g-th function
abbrev pub is_copy : (n : Lanes) → (g : ℕ) → Option Slot → Bool
is_copy n g None = false
is_copy n g (Some (Global u i)) = has_kind n.globals i Unboxed
is_copy n g (Some (Parameter u i)) = has_kind (parameters_at n.parameters g) i Unboxed

-- A name is boxed once anything else is stored into it than a number, or, for a global, than a copy of a name that is unboxed in n. A parameter is boxed
-- too once anything is stored into it where a global lends its value in n.
abbrev pub marked : (n : Lanes) → (g : ℕ) → Lanes → Store → Lanes
marked n g l (Into (Global u i) o f) = unless (is_number f || is_copy n g o) l (record l { globals = close_at l.globals i })
marked n g l (Into (Parameter u i) o f) = unless (not (is_some (lender_at n.lenders i)) && is_number f) l (record l { parameters = close_in l.parameters g i })
marked n g l (Given h i o f) = unless (is_passed (lender_at n.lenders i) o f) l (record l { parameters = close_in l.parameters h i })
marked n g l Asked = l

abbrev pub at_first : Program → Lanes
at_first p = record { numbers = []; globals = map opened (kinds_of p.globals); parameters = map (map opened) (calls_of p); lenders = [] }

abbrev pub walked : (n : Lanes) → Program → Lanes
walked n p = visited (marked n) (at_first p) p

abbrev pub no_names : Lanes
no_names = record { numbers = []; globals = []; parameters = []; lenders = [] }

-- the names of numbers, where no copy counts and nothing lends
abbrev pub numbers_alone : Program → Lanes
numbers_alone p = walked no_names p

-- The scan for globals that may lend their values.

pub record Scan : Type 0 where
  -- the globals into which code stores nothing are unboxed here
  pub free : List Kind
  -- whether code reads the main input
  pub asked : Bool
  -- by the places of parameters, the first global whose value is given there
  pub wishes : List (Option ℕ)
  -- by the places of parameters, whether a number is given there
  pub numbered : List Bool

abbrev pub first_wish : Option ℕ → ℕ → Option ℕ
first_wish None g = Some g
first_wish (Some h) g = Some h

abbrev pub wish_at : List (Option ℕ) → ℕ → ℕ → List (Option ℕ)
wish_at [] i g = []
wish_at (o ∷ os) zero g = first_wish o g ∷ os
wish_at (o ∷ os) (suc i) g = o ∷ wish_at os i g

abbrev pub written : Scan → Slot → Scan
written s (Global u i) = record s { free = close_at s.free i }
written s (Parameter u i) = s

abbrev pub offered : Scan → ℕ → Option Slot → Scan
offered s i None = s
offered s i (Some (Global u g)) = record s { wishes = wish_at s.wishes i g }
offered s i (Some (Parameter u j)) = s

abbrev pub numbered_at : Bool → List Bool → ℕ → List Bool
numbered_at true bs i = set bs i true
numbered_at false bs i = bs

abbrev pub given : Scan → ℕ → Option Slot → Bool → Scan
given s i o b = record (offered s i o) { numbered = numbered_at b s.numbered i }

abbrev pub seen : ℕ → Scan → Store → Scan
seen g s (Into x o f) = written s x
seen g s (Given h i o f) = given s i o (is_number f)
seen g s Asked = record s { asked = true }

abbrev pub none_wished : List (Option ℕ) → List (Option ℕ)
none_wished [] = []
none_wished (o ∷ os) = None ∷ none_wished os

abbrev pub unseen : Program → Scan
unseen p = record {
  free = map opened (kinds_of p.globals);
  asked = false;
  wishes = none_wished p.lenders;
  numbered = replicate (length p.lenders) false;
}

abbrev pub scanned : Program → Scan
scanned p = visited seen (unseen p) p

-- The globals that lend.

-- whether some function has an unboxed parameter at this place
abbrev pub any_unboxed : List (List Kind) → ℕ → Bool
any_unboxed [] i = false
any_unboxed (ks ∷ kss) i = has_kind ks i Unboxed || any_unboxed kss i

abbrev pub only_if : Bool → ℕ → Option ℕ
only_if true g = Some g
only_if false g = None

-- A global that is given at a place lends its value there if nothing but the command line stores into it, before the script runs, a number is given there
-- too, to any function, and no parameter there has numbers alone. Where none is given, an unboxed parameter would always be read from the global, which is
-- slower.
abbrev pub granted : (asked : Bool) → (free : List Kind) → (numbered : List Bool) → (parameters : List (List Kind)) → ℕ → Option ℕ → Option ℕ
granted asked ks bs kss i None = None
granted asked ks bs kss i (Some g) = only_if (not asked && (get_or bs i false && (has_kind ks g Unboxed && not (any_unboxed kss i)))) g

-- each place anew
abbrev pub by_place : (ℕ → Option ℕ → Option ℕ) → List (Option ℕ) → List (Option ℕ)
by_place w [] = []
by_place w (o ∷ os) = w zero o ∷ by_place (λ i. w (suc i)) os

abbrev pub lenders_of : Program → List (Option ℕ)
lenders_of p = let s = scanned p in by_place (granted s.asked s.free s.numbered (numbers_alone p).parameters) s.wishes

-- what the second walk starts from
abbrev pub first_walk : Program → Lanes
first_walk p = record (numbers_alone p) { lenders = lenders_of p }

-- a copy of one of these counts: it is a number, or a text from the command line
abbrev pub infer : Program → Lanes
infer p = let first = first_walk p in record (walked first p) { numbers = first.globals; lenders = first.lenders }
