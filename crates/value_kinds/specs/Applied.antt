-- A program with lanes at its names.
use Rattle.std.specs.Prelude.{ℕ, zero, suc, Bool, not, ◌&&◌, List, [], ◌∷◌, Option}
use Rattle.mid_program.specs.Mid.{Kind, Boxed, Unboxed, ArrayKind, Slot, Global, Parameter, Do, Steps, Declared, Routine, Program, parameters_at}
use Rattle.mid_program.specs.Sorted.{has_kind, lender_at, scalar_kind}
use Rattle.mid_program.specs.Rewriting.{steps_in}
use Rattle.value_kinds.specs.Lanes.{Lanes, by_place}

abbrev pub is_unboxed : List Kind → ℕ → Bool
is_unboxed ks i = has_kind ks i Unboxed

-- a name that has no lane is boxed
abbrev pub slot_in : (globals parameters : List Kind) → Slot → Slot
slot_in gs ps (Global u i) = Global (is_unboxed gs i) i
slot_in gs ps (Parameter u i) = Parameter (is_unboxed ps i) i

-- an array stays one
abbrev pub kind_with : Bool → Kind → Kind
kind_with u ArrayKind = ArrayKind
kind_with u Boxed = scalar_kind u
kind_with u Unboxed = scalar_kind u

abbrev pub kinds_with : (ℕ → Bool) → List Kind → List Kind
kinds_with u [] = []
kinds_with u (k ∷ ks) = kind_with (u zero) k ∷ kinds_with (λ i. u (suc i)) ks

-- whether it is unboxed, and whether numbers alone are stored into it: else it takes copies too
abbrev pub global_with : (unboxed numbers : Bool) → Declared → Declared
global_with u n d = record d { kind = kind_with u d.kind; mixed = u && not n }

abbrev pub globals_with : (unboxed numbers : ℕ → Bool) → List Declared → List Declared
globals_with u n [] = []
globals_with u n (d ∷ ds) = global_with (u zero) (n zero) d ∷ globals_with (λ i. u (suc i)) (λ i. n (suc i)) ds

abbrev pub steps_with : (globals parameters : List Kind) → Steps → Steps
steps_with gs ps ss = steps_in (slot_in gs ps) Do ss

abbrev pub routine_with : (globals parameters : List Kind) → Routine → Routine
routine_with gs ps r = record r { parameters = kinds_with (is_unboxed ps) r.parameters; body = steps_with gs ps r.body }

abbrev pub routines_with : (globals : List Kind) → (parameters : ℕ → List Kind) → List Routine → List Routine
routines_with gs ps [] = []
routines_with gs ps (r ∷ rs) = routine_with gs (ps zero) r ∷ routines_with gs (λ f. ps (suc f)) rs

-- each place of the list gets its lender
abbrev pub lenders_with : (ℕ → Option ℕ) → List (Option ℕ) → List (Option ℕ)
lenders_with lender os = by_place (λ i o. lender i) os

abbrev pub apply : Lanes → Program → Program
apply l p = record p {
  lenders = lenders_with (lender_at l.lenders) p.lenders;
  globals = globals_with (is_unboxed l.globals) (is_unboxed l.numbers) p.globals;
  routines = routines_with l.globals (parameters_at l.parameters) p.routines;
  begin = steps_with l.globals [] p.begin;
  items = steps_with l.globals [] p.items;
  end = steps_with l.globals [] p.end;
}
