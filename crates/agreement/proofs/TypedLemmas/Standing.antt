-- What the code of a function stands in: its locals, the globals, the imports and the functions have their types.
use Rattle.std.proofs.Common.{◌≡◌, ℕ, zero, suc, ◌<◌, true, List, [], ◌∷◌, length, Some, arith}
use Rattle.std.specs.Prelude.{slice_get, map}
use Rattle.wasm_types.specs.Syntax.{Signature}
use Rattle.wasm_types.specs.Typing.{Context}
use Rattle.wasm_types.specs.declared.types.ValType.TheVariants.{I32, I64}
use Rattle.mid_program.specs.Mid.{Kind, Program, parameters_at}
use Rattle.mid_program.specs.Sorted.{calls_of, kinds_of, has_kind, lender_at}
use Rattle.lower_model.specs.Emission.{function_number}
use Rattle.host_imports.specs.Imports.{import_type}
use Rattle.host_imports.specs.Names.{import_number}
use Rattle.lower_model.specs.Places.{Bases, way_global, status_global, text_global, range_global, handle_global, number_global, answer_local, handle_local, number_local, iterator_local, array_local, kind_type}
use Rattle.host_imports.specs.declared.import.Import.{Import}
use Rattle.agreement.proofs.TypedLemmas.Singles.{variable}

-- a function is given its parameters, and answers a number, or that a text waits
abbrev pub routine_type : List Kind → Signature
routine_type ks = record { params = map kind_type ks; result = Some I64 }

-- code of program p, in a function with parameters of kinds ks, whose own things stand at b
pub record Stands (p : Program) (ks : List Kind) (b : Bases) (C : Context) : Type 0 where
  pub handle : (t : ℕ) → t < b.temporaries → slice_get C.locals (handle_local b t) ≡ Some I32
  pub number : (t : ℕ) → t < b.temporaries → slice_get C.locals (number_local b t) ≡ Some I64
  pub iterator : (u : ℕ) → u < b.iterators → slice_get C.locals (iterator_local b u) ≡ Some I32
  pub array : (w : ℕ) → w < b.arrays → slice_get C.locals (array_local b w) ≡ Some I32
  pub answer : slice_get C.locals (answer_local b) ≡ Some I64
  pub parameter : (i : ℕ) (k : Kind) → has_kind ks i k ≡ true → slice_get C.locals i ≡ Some (kind_type k)
  -- what lends at a place is a global
  pub lender : (i g : ℕ) → lender_at p.lenders i ≡ Some g → g < length (kinds_of p.globals)
  pub way : slice_get C.globals way_global ≡ Some (variable I32)
  pub status : slice_get C.globals status_global ≡ Some (variable I64)
  pub text : slice_get C.globals text_global ≡ Some (variable I32)
  pub range : (i : ℕ) → i < p.ranges → slice_get C.globals (range_global i) ≡ Some (variable I32)
  pub name_handle : (i : ℕ) → i < length (kinds_of p.globals) → slice_get C.globals (handle_global p.ranges i) ≡ Some (variable I32)
  pub name_number : (i : ℕ) → i < length (kinds_of p.globals) → slice_get C.globals (number_global p.ranges i) ≡ Some (variable I64)
  pub imported : (i : Import) → C.callee (import_number i) ≡ Some (import_type i)
  pub routine : (f : ℕ) → f < length (calls_of p) → C.callee (function_number f) ≡ Some (routine_type (parameters_at (calls_of p) f))

pub kind_below : (ks : List Kind) (i : ℕ) (k : Kind) → has_kind ks i k ≡ true → i < length ks
kind_below [] i k e = cc
kind_below (j ∷ ks) zero k e = omega arith
kind_below (j ∷ ks) (suc i) k e = let r = kind_below ks i k e in omega (arith, r)
