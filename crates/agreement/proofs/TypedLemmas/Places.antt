-- Where the module has what code stands in: places in the lists of locals, globals, imports and functions.
use Rattle.std.proofs.Common.{◌≡◌, ℕ, zero, suc, ◌+◌, ◌<◌, true, false, List, [], ◌∷◌, ◌++◌, length, Some, None, refl, sym, ap, ◌∙◌, arith}
use Rattle.std.specs.Prelude.{slice_get, map, replicate, option_map}
use Rattle.std.proofs.lemmas.List.{length-map, length-replicate, get_or-replicate}
use Rattle.std.proofs.lemmas.Option.{slice_get-get_or}
use Rattle.sem_primitives.specs.declared.table.Primitive.TheVariants as row
use Rattle.wasm_types.specs.Syntax.{Signature, GlobalForm}
use Rattle.wasm_types.specs.Typing.{Context}
use Rattle.wasm_types.specs.declared.types.ValType.{ValType}
use Rattle.wasm_types.specs.declared.types.ValType.TheVariants.{I32, I64}
use Rattle.wasm_types.specs.declared.types.GlobalType.{GlobalType}
use Rattle.mid_program.specs.Mid.{Kind, Boxed, Unboxed, ArrayKind, Routine, Program, parameters_at}
use Rattle.mid_program.specs.Sorted.{kinds_of, calls_of, has_kind, are_lenders}
use Rattle.lower_model.specs.Emission.{function_number}
use Rattle.lower_model.specs.Functions.{routine_callee, main_callee}
use Rattle.host_imports.specs.Imports.{imports, import_type}
use Rattle.host_imports.specs.Names.{import_number}
use Rattle.lower_model.specs.Machine.{Callee}
use Rattle.lower_model.specs.Modules.{all_callees, callee_type, globals_of, word_global, long_global, name_globals}
use Rattle.lower_model.specs.Places.{Bases, kind_type, local_types, temporary_types, handle_types, range_global, handle_global, number_global, answer_local, handle_local, number_local, iterator_local, array_local}
use Rattle.lower_model.specs.Small.{minus_one, least}
use Rattle.host_imports.specs.declared.import.Import.{Import}
use Rattle.host_imports.specs.declared.import.Import.TheVariants.{OfPrimitive, Variadic}
use Rattle.host_imports.specs.declared.import.VariadicImport.TheVariants.{Sprintf}
use Rattle.mid_program.proofs.Lenders.{lender_unboxed}
use Rattle.agreement.proofs.TypedLemmas.Standing.{Stands, kind_below, routine_type}

-- Lists that are put together.

pub there_behind : {A : Type 0} → (xs ys : List A) (n m : ℕ) → length xs + n ≡ m → slice_get (xs ++ ys) m ≡ slice_get ys n
there_behind [] ys n m e = let e1 : m ≡ n = omega (arith, e) in ap (slice_get ys) e1
there_behind (x ∷ xs) ys n zero e = absurd (omega (arith, e))
there_behind (x ∷ xs) ys n (suc m) e = there_behind xs ys n m (omega (arith, e))

there_before : {A : Type 0} → (xs ys : List A) (i : ℕ) (a : A) → slice_get xs i ≡ Some a → slice_get (xs ++ ys) i ≡ Some a
there_before [] ys i a e = cc
there_before (x ∷ xs) ys zero a e = e
there_before (x ∷ xs) ys (suc i) a e = there_before xs ys i a e

-- Locals.

two_more : (t : ℕ) → suc t + suc t ≡ suc (suc (t + t))
two_more t = omega arith

handle_there : (n t : ℕ) → t < n → slice_get (temporary_types n) (t + t) ≡ Some I32
handle_there zero t lt = absurd (omega (arith, lt))
handle_there (suc n) zero lt = refl
handle_there (suc n) (suc t) lt = ap (slice_get (temporary_types (suc n))) (two_more t) ∙ handle_there n t (omega (arith, lt))

number_there : (n t : ℕ) → t < n → slice_get (temporary_types n) (suc (t + t)) ≡ Some I64
number_there zero t lt = absurd (omega (arith, lt))
number_there (suc n) zero lt = refl
number_there (suc n) (suc t) lt = ap (λ x. slice_get (temporary_types (suc n)) (suc x)) (two_more t) ∙ number_there n t (omega (arith, lt))

temporaries_length : (n : ℕ) → length (temporary_types n) ≡ n + n
temporaries_length zero = refl
temporaries_length (suc n) = let h = temporaries_length n in omega (arith, h)

handles_there : (n i : ℕ) → i < n → slice_get (handle_types n) i ≡ Some I32
handles_there zero i lt = absurd (omega (arith, lt))
handles_there (suc n) zero lt = refl
handles_there (suc n) (suc i) lt = handles_there n i (omega (arith, lt))

handles_length : (n : ℕ) → length (handle_types n) ≡ n
handles_length zero = refl
handles_length (suc n) = ap suc (handles_length n)

parameter_there : (ks : List Kind) (i : ℕ) (k : Kind) → has_kind ks i k ≡ true → slice_get (map kind_type ks) i ≡ Some (kind_type k)
parameter_there [] i k e = cc
parameter_there (Boxed ∷ ks) zero Boxed e = refl
parameter_there (Unboxed ∷ ks) zero Unboxed e = refl
parameter_there (ArrayKind ∷ ks) zero ArrayKind e = refl
parameter_there (j ∷ ks) zero k e = cc
parameter_there (j ∷ ks) (suc i) k e = parameter_there ks i k e

module _ (ks : List Kind) (b : Bases) (n : b.parameters ≡ length ks) where
  abbrev locals : List ValType
  locals = map kind_type ks ++ local_types b

  own_there : (i m : ℕ) (w : ValType) → b.parameters + i ≡ m → slice_get (local_types b) i ≡ Some w → slice_get locals m ≡ Some w
  own_there i m w e h = let l = length-map ks kind_type in there_behind (map kind_type ks) (local_types b) i m (omega (arith, l, n, e)) ∙ h

  temporary_there : (i m : ℕ) (w : ValType) → suc b.parameters + i ≡ m → slice_get (temporary_types b.temporaries) i ≡ Some w →
      slice_get locals m ≡ Some w
  temporary_there i m w e h =
      own_there (suc i) m w (omega (arith, e))
      (there_before (temporary_types b.temporaries) (handle_types b.iterators ++ handle_types b.arrays) i w h)

  later_there : (i m : ℕ) (w : ValType) → suc b.parameters + (b.temporaries + b.temporaries) + i ≡ m →
      slice_get (handle_types b.iterators ++ handle_types b.arrays) i ≡ Some w → slice_get locals m ≡ Some w
  later_there i m w e h =
      let l = temporaries_length b.temporaries in
      own_there (suc (b.temporaries + b.temporaries + i)) m w (omega (arith, e))
      (there_behind (temporary_types b.temporaries) (handle_types b.iterators ++ handle_types b.arrays) i (b.temporaries + b.temporaries + i)
      (omega (arith, l)) ∙ h)

  array_there : (w m : ℕ) → suc b.parameters + (b.temporaries + b.temporaries) + b.iterators + w ≡ m → w < b.arrays → slice_get locals m ≡ Some I32
  array_there w m e lt =
      let l = handles_length b.iterators in
      later_there (b.iterators + w) m I32 (omega (arith, e))
      (there_behind (handle_types b.iterators) (handle_types b.arrays) w (b.iterators + w) (omega (arith, l)) ∙ handles_there b.arrays w lt)

-- Globals.

abbrev type_of : GlobalForm → GlobalType
type_of g = g.ty

type_there : (gs : List GlobalForm) (i : ℕ) (g : GlobalForm) → slice_get gs i ≡ Some g → slice_get (map type_of gs) i ≡ Some g.ty
type_there [] i g e = cc
type_there (x ∷ xs) zero g e = ap (option_map type_of) e
type_there (x ∷ xs) (suc i) g e = type_there xs i g e

replicated_there : (n i : ℕ) (g : GlobalForm) → i < n → slice_get (replicate n g) i ≡ Some g
replicated_there n i g lt =
    let l = length-replicate n g in
    slice_get-get_or (replicate n g) i g (omega (arith, l, lt)) ∙ ap Some (get_or-replicate n i g g lt)

name_handle_there : (ks : List Kind) (i : ℕ) → i < length ks → slice_get (name_globals ks) (i + i) ≡ Some (word_global minus_one)
name_handle_there [] i lt = absurd (omega (arith, lt))
name_handle_there (k ∷ ks) zero lt = refl
name_handle_there (k ∷ ks) (suc i) lt = ap (slice_get (name_globals (k ∷ ks))) (two_more i) ∙ name_handle_there ks i (omega (arith, lt))

name_number_there : (ks : List Kind) (i : ℕ) → i < length ks → slice_get (name_globals ks) (suc (i + i)) ≡ Some (long_global least)
name_number_there [] i lt = absurd (omega (arith, lt))
name_number_there (k ∷ ks) zero lt = refl
name_number_there (k ∷ ks) (suc i) lt = ap (λ x. slice_get (name_globals (k ∷ ks)) (suc x)) (two_more i) ∙ name_number_there ks i (omega (arith, lt))

module _ (p : Program) where
  abbrev later : List GlobalForm
  later = replicate p.ranges (word_global 0) ++ name_globals (kinds_of p.globals)

  later_global : (i m : ℕ) (g : GlobalForm) → suc (suc (suc i)) ≡ m → slice_get later i ≡ Some g → slice_get (map type_of (globals_of p)) m ≡ Some g.ty
  later_global i m g e h = ap (slice_get (map type_of (globals_of p))) (sym e) ∙ type_there later i g h

  name_global : (i m : ℕ) (g : GlobalForm) → suc (suc (suc p.ranges)) + i ≡ m → slice_get (name_globals (kinds_of p.globals)) i ≡ Some g →
      slice_get (map type_of (globals_of p)) m ≡ Some g.ty
  name_global i m g e h =
      let l = length-replicate p.ranges (word_global 0) in
      later_global (p.ranges + i) m g (omega (arith, e))
      (there_behind (replicate p.ranges (word_global 0)) (name_globals (kinds_of p.globals)) i (p.ranges + i) (omega (arith, l)) ∙ h)

  -- Imports, and the functions after them.

  abbrev pub all_types : List Signature
  all_types = map import_type imports ++ map callee_type (all_callees p)

  imported_there : (i : Import) → slice_get all_types (import_number i) ≡ Some (import_type i)
  imported_there (OfPrimitive row.Num) = refl
  imported_there (OfPrimitive q) = refl
  imported_there (Variadic Sprintf) = refl
  imported_there (Variadic l) = refl
  imported_there i = refl

  routine_there : (rs : List Routine) (fs : List Callee) (f : ℕ) → f < length rs →
      slice_get (map callee_type (map (routine_callee p) rs ++ fs)) f ≡ Some (routine_type (parameters_at (map (λ (r : Routine). r.parameters) rs) f))
  routine_there [] fs f lt = absurd (omega (arith, lt))
  routine_there (r ∷ rs) fs zero lt = refl
  routine_there (r ∷ rs) fs (suc f) lt = routine_there rs fs f (omega (arith, lt))

  -- What a function with parameters of kinds ks stands in, if no import were left out.
  abbrev pub whole_context : ValType → List Kind → Bases → Context
  whole_context a ks b = record {
    locals = map kind_type ks ++ local_types b;
    result = Some a;
    callee = slice_get all_types;
    typed = λ n. None;
    globals = map type_of (globals_of p);
    memory = true;
    table = false;
  }

  pub stands : (a : ValType) (ks : List Kind) (b : Bases) → b.parameters ≡ length ks → are_lenders (kinds_of p.globals) p.lenders ≡ true →
      Stands p ks b (whole_context a ks b)
  stands a ks b n lend = record {
    handle = λ t lt. temporary_there ks b n (t + t) (handle_local b t) I32 refl (handle_there b.temporaries t lt);
    number = λ t lt. temporary_there ks b n (suc (t + t)) (number_local b t) I64 (omega arith) (number_there b.temporaries t lt);
    iterator = λ u lt.
        later_there ks b n u (iterator_local b u) I32 refl
        (there_before (handle_types b.iterators) (handle_types b.arrays) u I32 (handles_there b.iterators u lt));
    array = λ w lt. array_there ks b n w (array_local b w) refl lt;
    answer = own_there ks b n 0 (answer_local b) I64 (omega arith) refl;
    parameter = λ i k h. there_before (map kind_type ks) (local_types b) i (kind_type k) (parameter_there ks i k h);
    lender = λ i g e. kind_below (kinds_of p.globals) g Unboxed (lender_unboxed (kinds_of p.globals) p.lenders i g lend e);
    way = refl;
    status = refl;
    text = refl;
    range = λ i lt.
        later_global i (range_global i) (word_global 0) refl
        (there_before (replicate p.ranges (word_global 0)) (name_globals (kinds_of p.globals)) i (word_global 0)
        (replicated_there p.ranges i (word_global 0) lt));
    name_handle = λ i lt. name_global (i + i) (handle_global p.ranges i) (word_global minus_one) refl (name_handle_there (kinds_of p.globals) i lt);
    name_number = λ i lt.
        name_global (suc (i + i)) (number_global p.ranges i) (long_global least) (omega arith)
        (name_number_there (kinds_of p.globals) i lt);
    imported = imported_there;
    routine = λ f lt.
        there_behind (map import_type imports) (map callee_type (all_callees p)) f (function_number f) refl
        ∙ routine_there p.routines (main_callee p ∷ []) f (calls_below f lt);
  }
    where
      calls_below : (f : ℕ) → f < length (calls_of p) → f < length p.routines
      calls_below f lt = let l = length-map p.routines (λ (r : Routine). r.parameters) in omega (arith, l, lt)
