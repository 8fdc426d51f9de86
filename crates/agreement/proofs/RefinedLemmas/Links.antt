-- The module of a program has the imports and the functions that its code calls, under their new numbers.
use Rattle.std.proofs.Common.{◌≡◌, ℕ, zero, suc, ◌+◌, ◌-◌, ◌&&◌, Bool, true, List, [], ◌∷◌, ◌++◌, length, Option, Some, None, map, refl, sym, ap, ap₂, ◌∙◌}
use Rattle.std.proofs.Common.{arith, append-nil}
use Rattle.std.specs.Prelude.{nat_eq, option_map, slice_get}
use Rattle.std.proofs.lemmas.Bool.{and_parts, eqb-true, or_left, or_right}
use Rattle.std.proofs.lemmas.List.{length-append, length-map}
use Rattle.std.proofs.lemmas.Option.{get_or_from_slice_get, none-some, slice_get-get_or, slice_get-map, slice_get_past, slice_get_within}
use Rattle.std.proofs.lemmas.Simd.{map-map}
use Rattle.std.proofs.Math.ListN.{get_or-append}
use Rattle.wasm_types.specs.Syntax.{FuncForm, ImportForm, ModuleForm, Signature}
use Rattle.wasm_model.specs.Links.{IsNew, number_for, number_if, numbers_for}
use Rattle.wasm_model.specs.Machines.{Conf, ProgramForm, asked, asked_if, call_at, called, entered_func, entered_if}
use Rattle.wasm_model.specs.Runs.{MachineForm}
use Rattle.sem_primitives.specs.declared.table.Primitive.TheVariants as row
use Rattle.mid_program.specs.Mid.{Program}
use Rattle.host_imports.specs.Imports.{host_finds, import_at, import_count, import_type, imports, module_name}
use Rattle.host_imports.specs.Names.{import_name, import_number}
use Rattle.lower_model.specs.Machine.{Callee}
use Rattle.lower_model.specs.Functions.{routine_callee, main_callee}
use Rattle.lower_model.specs.Modules.{all_callees, any_calls, called_imports, callee_type, calls_in, functions_from, imported_from, imports_of, module_of}
use Rattle.lower_model.specs.Modules.{new_number, renumbered}
use Rattle.lower_model.specs.Runs.{code_of}
use Rattle.host_imports.specs.declared.import.Import.{Import}
use Rattle.host_imports.specs.declared.import.Import.TheVariants.{OfPrimitive, Variadic}
use Rattle.host_imports.specs.declared.import.VariadicImport.TheVariants.{Sprintf}
use Rattle.agreement.specs.Typed.Finds.{table_finds}
use Rattle.agreement.proofs.TypedLemmas.Chosen.{functions_behind, renumbered_there}
use Rattle.agreement.proofs.TypedLemmas.Links.{imports_there}
use Rattle.agreement.proofs.TypedLemmas.Places.{there_behind}
use Rattle.agreement.specs.Refined.Refined.{CodeAs, Linked}
use Rattle.agreement.proofs.RefinedLemmas.ImportAnswers.{some_of}

-- Imports stand in the order of their numbers.

abbrev are_in_order : ℕ → List Import → Bool
are_in_order a [] = true
are_in_order a (i ∷ is) = nat_eq (import_number i) a && are_in_order (suc a) is

number_at : (a : ℕ) (is : List Import) → are_in_order a is ≡ true → (n : ℕ) (i : Import) → slice_get is n ≡ Some i → import_number i ≡ a + n
number_at a [] h n i e = absurd (none-some i e)
number_at a (x ∷ is) h zero i e =
    let s = eqb-true (import_number x) a (and_parts (nat_eq (import_number x) a) (are_in_order (suc a) is) h).0 in
    let q = ap import_number (some_of x i e) in
    omega (arith, s, q)
number_at a (x ∷ is) h (suc n) i e =
    let s = number_at (suc a) is (and_parts (nat_eq (import_number x) a) (are_in_order (suc a) is) h).1 n i e in
    omega (arith, s)

imported_at : (a : ℕ) (is : List Import) (n m : ℕ) (i : Import) → a + n ≡ m → slice_get is n ≡ Some i →
    slice_get (imported_from a is) n ≡ Some (record { from = module_name; name = import_name i; ty = m })
imported_at a [] n m i e h = absurd (none-some i h)
imported_at a (x ∷ is) zero m i e h =
    let q : a ≡ m = omega (arith, e) in
    ap₂ (λ (k : ℕ) (y : Import). Some (record { from = module_name; name = import_name y; ty = k })) q (some_of x i h)
imported_at a (x ∷ is) (suc n) m i e h = imported_at (suc a) is n m i (omega (arith, e)) h

function_at : (bs : List Bool) (a : ℕ) (fs : List Callee) (k m : ℕ) (f : Callee) → a + k ≡ m → slice_get fs k ≡ Some f →
    slice_get (functions_from bs a fs) k ≡ Some (record { ty = m; locals = f.locals; body = renumbered bs f.body })
function_at bs a [] k m f e h = absurd (none-some f h)
function_at bs a (x ∷ fs) zero m f e h =
    let q : a ≡ m = omega (arith, e) in
    ap₂ (λ (k : ℕ) (y : Callee). Some (record { ty = k; locals = y.locals; body = renumbered bs y.body })) q (some_of x f h)
function_at bs a (x ∷ fs) (suc k) m f e h = function_at bs (suc a) fs k m f (omega (arith, e)) h

front : {A : Type 0} → (xs ys : List A) (i : ℕ) (a : A) → slice_get xs i ≡ Some a → slice_get (xs ++ ys) i ≡ Some a
front xs ys i a e =
    let lt = slice_get_within xs i a e in
    let l = length-append xs ys in
    slice_get-get_or (xs ++ ys) i a (omega (arith, lt, l)) ∙ ap Some (get_or-append xs ys a i lt ∙ get_or_from_slice_get xs i a a e)

-- what a function calls is called
heard : (fs : List Callee) (k : ℕ) (f : Callee) → slice_get fs k ≡ Some f → (n : ℕ) → calls_in n f.body ≡ true → any_calls n fs ≡ true
heard [] k f h n e = absurd (none-some f h)
heard (x ∷ fs) zero f h n e = or_left (calls_in n x.body) (any_calls n fs) (ap (λ (y : Callee). calls_in n y.body) (some_of x f h) ∙ e)
heard (x ∷ fs) (suc k) f h n e = or_right (calls_in n x.body) (any_calls n fs) (heard fs k f h n e)

module _ (p : Program) where
  -- which imports stay
  abbrev pub stays : ℕ → Bool
  stays n = any_calls n (all_callees p)

  -- the module, with the numbers of its imports in the table
  abbrev pub program : ProgramForm
  program = record { whole = module_of p; numbers = map import_number (imports_of p) }

  abbrev bs : List Bool
  bs = called_imports p

  imports_length : length (module_of p).imports ≡ length (imports_of p)
  imports_length =
      sym (length-map (module_of p).imports _)
      ∙ (ap (λ (l : List (Option ℕ)). length l) (imports_there p) ∙ length-map (imports_of p) (λ i. Some (import_number i)))

  module _ (n : ℕ) (i : Import) (at-n : import_at n ≡ Some i) (stays-n : stays n ≡ true) where
    there : slice_get (imports_of p) (new_number bs n) ≡ Some i
    there =
        ap (λ l. slice_get l (new_number bs n)) (sym (append-nil (imports_of p)))
        ∙ (renumbered_there p imports [] n refl stays-n ∙ at-n)

    pub number_there : slice_get program.numbers (new_number bs n) ≡ Some n
    number_there =
        let q : import_number i ≡ n = (let z = number_at 0 imports refl n i at-n in omega (arith, z)) in
        slice_get-map import_number (imports_of p) (new_number bs n) ∙ (ap (λ (o : Option Import). option_map import_number o) there ∙ ap Some q)

    type_there : slice_get (module_of p).types (new_number bs n) ≡ Some (import_type i)
    type_there =
        front (map import_type (imports_of p)) (map callee_type (all_callees p)) (new_number bs n) (import_type i)
        (slice_get-map import_type (imports_of p) (new_number bs n) ∙ ap (λ (o : Option Import). option_map import_type o) there)

    import_there : (c : Conf) → called program (new_number bs n) c ≡ asked n (import_type i) c
    import_there c =
        let m = new_number bs n in
        let others = slice_get (module_of p).funcs (m - length (module_of p).imports) in
        ap (λ (o : Option ImportForm). call_at program m o others c) (imported_at 0 (imports_of p) m m i (omega arith) there)
        ∙ ap₂ (λ (a : Option ℕ) (t : Option Signature). asked_if a t c) number_there type_there

  module _ (k : ℕ) (f : Callee) (at-k : slice_get (all_callees p) k ≡ Some f) where
    abbrev form : FuncForm
    form = record { ty = length (imports_of p) + k; locals = f.locals; body = renumbered bs f.body }

    form_there : slice_get (module_of p).funcs k ≡ Some form
    form_there = function_at bs (length (imports_of p)) (all_callees p) k (length (imports_of p) + k) f refl at-k

    callee_type_there : slice_get (module_of p).types (length (imports_of p) + k) ≡ Some (callee_type f)
    callee_type_there =
        let l = length-map (imports_of p) import_type in
        there_behind (map import_type (imports_of p)) (map callee_type (all_callees p)) k (length (imports_of p) + k) (omega (arith, l))
        ∙ (slice_get-map callee_type (all_callees p) k ∙ ap (λ (o : Option Callee). option_map callee_type o) at-k)

    -- no import has the number of a function
    pub function_there : (m : ℕ) (c : Conf) → m ≡ length (imports_of p) + k → called program m c ≡ entered_func (callee_type f) form c
    function_there m c e =
        let l = imports_length in
        let past : slice_get (module_of p).imports m ≡ None = slice_get_past (module_of p).imports m (omega (arith, e, l)) in
        let q : m - length (module_of p).imports ≡ k = omega (arith, e, l) in
        ap₂ (λ (o : Option ImportForm) (g : Option FuncForm). call_at program m o g c) past (ap (slice_get (module_of p).funcs) q ∙ form_there)
        ∙ ap (λ (t : Option Signature). entered_if t form c) callee_type_there

    pub code_there : CodeAs stays bs f.body form.body
    code_there = record { same = refl; used_only = heard (all_callees p) k f at-k }

  -- THE MODULE is linked to its code
  pub linked : Linked stays bs (code_of p 9999) program
  linked = record {
    imported = λ n i c e u. import_there n i e u c;
    entered = λ k f c e.
        let all = front (map (routine_callee p) p.routines) (main_callee p ∷ []) k f e in
        (form k f all, refl, code_there k f all, function_there k f all (new_number bs (import_count + k)) c (functions_behind p k));
    deepest = refl;
    silent = λ code output. refl;
  }

-- A HOST OF THE TABLE finds all imports: a machine that is linked with it has this program.

found_same : (i : Import) → host_finds module_name (import_name i) ≡ table_finds module_name (import_name i)
found_same (OfPrimitive row.Num) = refl
found_same (OfPrimitive q) = refl
found_same (Variadic Sprintf) = refl
found_same (Variadic l) = refl
found_same i = refl

numbers_same : (m : ModuleForm) (a : ℕ) (is : List Import) → map (number_for host_finds m) (imported_from a is) ≡ map (number_for table_finds m)
    (imported_from a is)
numbers_same m a [] = refl
numbers_same m a (i ∷ is) = ap₂ (λ (x : Option ℕ) (xs : List (Option ℕ)). x ∷ xs) (ap (number_if m a) (found_same i)) (numbers_same m (suc a) is)

all_some : (ms ns : List ℕ) → map Some ms ≡ map Some ns → ms ≡ ns
all_some [] [] e = refl
all_some [] (n ∷ ns) e = cc
all_some (m ∷ ms) [] e = cc
all_some (m ∷ ms) (n ∷ ns) e =
    let h : Some m ≡ Some n = cc in
    let t : map Some ms ≡ map Some ns = cc in
    ap₂ (λ x xs. x ∷ xs) (some_of m n h) (all_some ms ns t)

-- it has the numbers of the imports that stay
pub numbers_are : (p : Program) → numbers_for host_finds (module_of p) ≡ map Some (program p).numbers
numbers_are p = numbers_same (module_of p) 0 (imports_of p) ∙ (imports_there p ∙ sym (map-map Some import_number (imports_of p)))

pub program_is : (p : Program) (a : MachineForm) → IsNew host_finds (module_of p) a → a.program ≡ program p
program_is p a new = ap₂ (λ (m : ModuleForm) (ns : List ℕ). record { whole = m; numbers = ns }) new.whole
    (all_some a.program.numbers (map import_number (imports_of p)) (sym new.linked ∙ numbers_are p))
