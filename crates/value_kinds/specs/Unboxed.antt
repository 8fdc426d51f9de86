-- Scalars into which a script stores numbers alone, or copies of such scalars besides, and what they are in its code.
use Rattle.std.specs.Prelude.{◌≡◌, ◌⊎◌, ℕ, true, false, List, Some, None, slice_get}
use Rattle.std.specs.List.{All}
use Rattle.mid_program.specs.Mid.{Program, Unboxed, parameters_at}
use Rattle.sem_scripts.specs.Names.{Name, Resolved, function_at}
use Rattle.mid_program.specs.Sorted.{calls_of, has_kind, is_mixed, kinds_of, lender_at, mixed_of}
use Rattle.value_kinds.specs.Stores.{Copy, Global, Parameter, Result, Scalar, Special, Store, Stored, Text, Value, is_number, script_stores}

-- whatever the script stores into this scalar is a number
abbrev pub TakesNumbers : Resolved → Scalar → Type 0
TakesNumbers script x = All (λ (s : Store). s.scalar ≡ x → is_number s.stored ≡ true) (script_stores script)

abbrev pub scalar_name : List ℕ → Name
scalar_name x = record { name = x; is_array = false }

-- the script has this scalar, by a name that is no array's
abbrev pub IsThere : Resolved → Scalar → Type 0
IsThere script (Global i) = (x : List ℕ) × (slice_get script.globals i ≡ Some (scalar_name x))
IsThere script (Parameter f i) = (x : List ℕ) × (slice_get (function_at script.functions f).parameters i ≡ Some (scalar_name x))
IsThere script Special = ⊥

-- a copy of a scalar into which the script stores numbers alone
abbrev pub CopiesNumbers : Resolved → Stored → Type 0
CopiesNumbers script (Copy y) = IsThere script y × TakesNumbers script y
CopiesNumbers script (Value t) = ⊥
CopiesNumbers script Result = ⊥
CopiesNumbers script Text = ⊥

-- whatever the script stores into this scalar is a number, or such a copy
abbrev pub TakesCopies : Resolved → Scalar → Type 0
TakesCopies script x = All (λ (s : Store). s.scalar ≡ x → (is_number s.stored ≡ true) ⊎ CopiesNumbers script s.stored) (script_stores script)

-- THE SCALARS INTO WHICH A SCRIPT STORES NUMBERS ALONE ARE UNBOXED IN ITS CODE, AND TAKE NO COPIES: globals by their numbers, and parameters by those of
-- their functions and their places; no global lends its value there. Globals into which it stores copies of such scalars besides are unboxed too.
pub record UnboxesNumbers (script : Resolved) (code : Program) : Type 0 where
  pub globals : (i : ℕ) (x : List ℕ) → slice_get script.globals i ≡ Some (scalar_name x) → TakesNumbers script (Global i)
      → (has_kind (kinds_of code.globals) i Unboxed ≡ true) × (is_mixed (mixed_of code.globals) i ≡ false)
  pub copies : (i : ℕ) (x : List ℕ) → slice_get script.globals i ≡ Some (scalar_name x) → TakesCopies script (Global i)
      → has_kind (kinds_of code.globals) i Unboxed ≡ true
  pub parameters : (f i : ℕ) (x : List ℕ) → slice_get (function_at script.functions f).parameters i ≡ Some (scalar_name x)
      → TakesNumbers script (Parameter f i)
      → (has_kind (parameters_at (calls_of code) f) i Unboxed ≡ true) × (lender_at code.lenders i ≡ None)
