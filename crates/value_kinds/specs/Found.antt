-- Scalars into which numbers alone are stored, as arguments too, are unboxed, and so are globals into which copies of such scalars are stored besides.
use Rattle.std.specs.Prelude.{◌≡◌, ◌⊎◌, ℕ, zero, suc, Bool, true, false, List, [], ◌∷◌, Option, Some, None}
use Rattle.mid_program.specs.Mid.{Kind, Boxed, Unboxed, ArrayKind, Slot, Global, Parameter, Routine, Program, parameters_at}
use Rattle.mid_program.specs.Sorted.{is_number, lender_at, kinds_of, calls_of}
use Rattle.value_kinds.specs.Applied.{is_unboxed}
use Rattle.value_kinds.specs.Lanes.{is_plain, function_count, infer}
use Rattle.mid_program.specs.Stores.{Store, Into, Given, Asked, Every, steps_stores}

-- what is stored into this global is a number
abbrev pub GlobalNumber : ℕ → ℕ → Store → Type 0
GlobalNumber i g (Into (Global u j) o f) = i ≡ j → is_number f ≡ true
GlobalNumber i g (Into (Parameter u j) o f) = Unit {0}
GlobalNumber i g (Given k j o f) = Unit {0}
GlobalNumber i g Asked = Unit {0}

-- what is stored into this parameter of the h-th function is a number, and what is given for it a number or nothing; the code stands in the g-th
abbrev pub ParameterNumber : (h i : ℕ) → ℕ → Store → Type 0
ParameterNumber h i g (Into (Global u j) o f) = Unit {0}
ParameterNumber h i g (Into (Parameter u j) o f) = h ≡ g → i ≡ j → is_number f ≡ true
ParameterNumber h i g (Given k j o f) = h ≡ k → i ≡ j → is_plain f ≡ true
ParameterNumber h i g Asked = Unit {0}

abbrev pub InRoutines : (ℕ → Store → Type 0) → ℕ → List Routine → Type 0
InRoutines P g [] = Unit {0}
InRoutines P g (r ∷ rs) = Every (P g) (steps_stores r.body) × InRoutines P (suc g) rs

-- of each store of the program
abbrev pub Throughout : (ℕ → Store → Type 0) → Program → Type 0
Throughout P p =
    let none = function_count p.routines in
    InRoutines P 0 p.routines × (Every (P none) (steps_stores p.begin) × (Every (P none) (steps_stores p.items) × Every (P none) (steps_stores p.end)))

abbrev pub is_scalar : List Kind → ℕ → Bool
is_scalar [] i = false
is_scalar (ArrayKind ∷ ks) zero = false
is_scalar (Boxed ∷ ks) zero = true
is_scalar (Unboxed ∷ ks) zero = true
is_scalar (k ∷ ks) (suc i) = is_scalar ks i

-- a copy of a scalar into which numbers alone are stored; the code stands in the g-th function
abbrev pub CopiesNumbers : Program → ℕ → Option Slot → Type 0
CopiesNumbers p g None = ⊥
CopiesNumbers p g (Some (Global u j)) = is_scalar (kinds_of p.globals) j ≡ true × Throughout (GlobalNumber j) p
CopiesNumbers p g (Some (Parameter u j)) = is_scalar (parameters_at (calls_of p) g) j ≡ true × Throughout (ParameterNumber g j) p

-- what is stored into this global is a number, or such a copy
abbrev pub GlobalTakes : Program → ℕ → ℕ → Store → Type 0
GlobalTakes p i g (Into (Global u j) o f) = i ≡ j → (is_number f ≡ true) ⊎ CopiesNumbers p g o
GlobalTakes p i g (Into (Parameter u j) o f) = Unit {0}
GlobalTakes p i g (Given k j o f) = Unit {0}
GlobalTakes p i g Asked = Unit {0}

-- such scalars are unboxed, and where such a parameter is nothing lends
pub record FindsNumbers (p : Program) : Type 0 where
  pub numbers : (i : ℕ) → is_scalar (kinds_of p.globals) i ≡ true → Throughout (GlobalNumber i) p → is_unboxed (infer p).numbers i ≡ true
  pub globals : (i : ℕ) → is_scalar (kinds_of p.globals) i ≡ true → Throughout (GlobalTakes p i) p → is_unboxed (infer p).globals i ≡ true
  pub parameters : (h i : ℕ) → is_scalar (parameters_at (calls_of p) h) i ≡ true → Throughout (ParameterNumber h i) p
      → (is_unboxed (parameters_at (infer p).parameters h) i ≡ true) × (lender_at (infer p).lenders i ≡ None)
