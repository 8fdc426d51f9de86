-- The module of a well-sorted program is typed.
use Rattle.std.proofs.Common.{◌≡◌, ◌↔◌, ℕ, zero, suc, ◌+◌, ◌^◌, ◌<◌, ◌≤◌, T, Bool, true, false, List, [], ◌∷◌, ◌++◌, length, Some, refl, ap, arith}
use Rattle.std.specs.List.{All}
use Rattle.std.specs.Prelude.{◌&&◌, slice_get, slice_index_or, get_or, map, replicate, codes}
use Rattle.std.proofs.lemmas.Bool.{and_parts, or_left, or_right}
use Rattle.std.proofs.lemmas.List.{length-map, length-append}
use Rattle.std.proofs.lemmas.List.Elements.{All-cons, All-nil, All-append, All-replicate}
use Rattle.wasm_types.specs.Syntax.{ExportForm, GlobalForm, ImportForm, ModuleForm}
use Rattle.wasm_types.specs.Typing.{CodeOk, context_in, function_types, typed_in, callee_in, FuncOk, ImportOk, IsConstant, DescOk, DataOk, AreDistinct, LimitsOk, LevelOk, ModuleOk}
use Rattle.wasm_types.specs.declared.types.ValType.TheVariants.{I32, I64}
use Rattle.wasm_types.specs.declared.module.ExportDesc.TheVariants.{Func, Memory}
use Rattle.mid_program.specs.Mid.{Kind, Routine, Program}
use Rattle.mid_program.specs.Sorted.{context_of, kinds_of, announced_names, all_differ, are_lenders, routines_sorted, parts_sorted, steps_sorted, is_sorted, IsSorted}
use Rattle.lower_model.specs.Functions.{texts_of, routine_bases, main_bases, routine_callee, main_callee}
use Rattle.host_imports.specs.Imports.{import_type}
use Rattle.lower_model.specs.Machine.{Callee}
use Rattle.lower_model.specs.Modules.{all_callees, calls_in, any_calls, called_imports, imports_of, renumbered, callee_type, exports_of, imported_from, functions_from, word_global, long_global, name_globals, globals_of, memory_for, pages_for, module_of}
use Rattle.lower_model.specs.Places.{memory_of}
use Rattle.lower_model.specs.Small.{minus_one, least}
use Rattle.host_imports.specs.declared.import.Import.{Import}
use Rattle.agreement.proofs.TypedLemmas.Bodies.{Enough, routine_body_ok, main_body_ok}
use Rattle.agreement.proofs.TypedLemmas.Places.{there_behind, whole_context, stands}
use Rattle.agreement.proofs.TypedLemmas.Renumbering.{renumbered_ok}
use Rattle.agreement.proofs.TypedLemmas.Numbers.{numbers_length, types_length, called_there}

from_T : (b : Bool) → T b → b ≡ true
from_T true t = refl
from_T false t = absurd t

both_there : (m : ModuleForm) (main : ℕ) → main < length (function_types m) → 0 < length m.memories → All (λ (e : ExportForm). DescOk m e.desc) (exports_of main)
both_there m main of_function of_memory =
    let memory : ExportForm = record { name = codes "memory"; desc = Memory 0 } in
    All-cons (λ (e : ExportForm). DescOk m e.desc) (record { name = codes "main"; desc = Func main }) (memory ∷ []) of_function
    (All-cons (λ (e : ExportForm). DescOk m e.desc) memory [] of_memory (All-nil (λ (e : ExportForm). DescOk m e.desc)))

module _ (p : Program) where
  -- a function's body is typed in the module
  abbrev BodyOk : Callee → Type 0
  BodyOk f = CodeOk (context_in (module_of p) (callee_type f) f.locals) (Some f.answer ∷ []) (renumbered (called_imports p) f.body) [] (f.answer ∷ [])

  -- what it calls is called
  abbrev IsHeard : Callee → Type 0
  IsHeard f = (n : ℕ) → calls_in n f.body ≡ true → any_calls n (all_callees p) ≡ true

  abbrev lend : Bool
  lend = are_lenders (kinds_of p.globals) p.lenders

  routine_ok : lend ≡ true → (r : Routine) → IsHeard (routine_callee p r) → steps_sorted (context_of p r.parameters) true false r.body ≡ true →
      BodyOk (routine_callee p r)
  routine_ok l r h s =
      let enough : Enough r.body (routine_bases r) = record { temporaries = omega arith; iterators = omega arith; arrays = omega arith } in
      renumbered_ok (called_imports p) (callee_in (module_of p)) (typed_in (module_of p)) (whole_context p I64 r.parameters (routine_bases r))
      (Some I64 ∷ []) (routine_callee p r).body [] (I64 ∷ []) refl
      (λ n e. called_there p n (h n e)) (routine_body_ok (stands p I64 r.parameters (routine_bases r) refl l) r.body s enough)

  main_ok : lend ≡ true → IsHeard (main_callee p) → parts_sorted p (context_of p []) ≡ true → BodyOk (main_callee p)
  main_ok l h s =
      let enough_begin : Enough p.begin (main_bases p) = record { temporaries = omega arith; iterators = omega arith; arrays = omega arith } in
      let enough_items : Enough p.items (main_bases p) = record { temporaries = omega arith; iterators = omega arith; arrays = omega arith } in
      let enough_end : Enough p.end (main_bases p) = record { temporaries = omega arith; iterators = omega arith; arrays = omega arith } in
      renumbered_ok (called_imports p) (callee_in (module_of p)) (typed_in (module_of p)) (whole_context p I32 [] (main_bases p)) (Some I32 ∷ [])
      (main_callee p).body [] (I32 ∷ []) refl
      (λ n e. called_there p n (h n e)) (main_body_ok (stands p I32 [] (main_bases p) refl l) (omega arith) s enough_begin enough_items enough_end)

  abbrev main_last : List Routine → List Callee
  main_last rs = map (routine_callee p) rs ++ main_callee p ∷ []

  -- some of the functions, the first of which has the n-th type
  functions_ok : lend ≡ true → (rs : List Routine) (n : ℕ) → routines_sorted p rs ≡ true → parts_sorted p (context_of p []) ≡ true →
      ((i : ℕ) → any_calls i (main_last rs) ≡ true → any_calls i (all_callees p) ≡ true) →
      ((i j : ℕ) → n + i ≡ j → slice_get (module_of p).types j ≡ slice_get (map callee_type (main_last rs)) i) →
      All (FuncOk (module_of p)) (functions_from (called_imports p) n (main_last rs))
  functions_ok l [] n s g h t =
      All-cons (FuncOk (module_of p)) _ [] (
        callee_type (main_callee p),
        t 0 n (omega arith),
        main_ok l
            (λ i e. h i (or_left (calls_in i (main_callee p).body) (any_calls i []) e)) g,
      ) (All-nil (FuncOk (module_of p)))
  functions_ok l (r ∷ rs) n s g h t =
      let s1 = and_parts (steps_sorted (context_of p r.parameters) true false r.body) (routines_sorted p rs) s in
      All-cons (FuncOk (module_of p)) _ (functions_from (called_imports p) (suc n) (main_last rs)) (
        callee_type (routine_callee p r),
        t 0 n (omega arith),
        routine_ok l r
            (λ i e. h i (or_left (calls_in i (routine_callee p r).body) (any_calls i (main_last rs)) e)) s1.0,
      )
      (functions_ok l rs (suc n) s1.1 g (λ i e. h i (or_right (calls_in i (routine_callee p r).body) (any_calls i (main_last rs)) e))
      (λ i j e. t (suc i) j (omega (arith, e))))

  all_functions_ok : is_sorted p ≡ true → All (FuncOk (module_of p)) (module_of p).funcs
  all_functions_ok s =
      let code = routines_sorted p p.routines && parts_sorted p (context_of p []) in
      let s0 = and_parts (all_differ (announced_names p)) (lend && code) s in
      let s1 = and_parts lend code s0.1 in
      let s2 = and_parts (routines_sorted p p.routines) (parts_sorted p (context_of p [])) s1.1 in
      let l = length-map (imports_of p) import_type in
      functions_ok s1.0 p.routines (length (imports_of p)) s2.0 s2.1 (λ i e. e)
      (λ i j e. there_behind (map import_type (imports_of p)) (map callee_type (all_callees p)) i j (omega (arith, l, e)))

  -- The rest of the module.

  import_below : (n : ℕ) (is : List Import) (k : ℕ) (d : ImportForm) → k < length (imported_from n is) →
      (get_or (imported_from n is) k d).ty < n + length is
  import_below n [] k d lt = absurd (omega (arith, lt))
  import_below n (i ∷ is) zero d lt = omega arith
  import_below n (i ∷ is) (suc k) d lt = let h = import_below (suc n) is k d (omega (arith, lt)) in omega (arith, h)

  imports_ok : All (ImportOk (module_of p)) (module_of p).imports
  imports_ok k d lt = let h = import_below 0 (imports_of p) k d lt in let l = types_length p in omega (arith, h, l)

  abbrev IsSet : GlobalForm → Type 0
  IsSet g = IsConstant g.init g.ty.value

  names_set : (ks : List Kind) → All IsSet (name_globals ks)
  names_set [] = All-nil IsSet
  names_set (k ∷ ks) =
      All-cons IsSet (word_global minus_one) (long_global least ∷ name_globals ks) refl
      (All-cons IsSet (long_global least) (name_globals ks) refl (names_set ks))

  globals_set : All IsSet (globals_of p)
  globals_set =
      let later = replicate p.ranges (word_global 0) ++ name_globals (kinds_of p.globals) in
      let texts = word_global minus_one ∷ later in
      All-cons IsSet (word_global 0) (long_global 0 ∷ texts) refl (All-cons IsSet (long_global 0) texts refl (All-cons IsSet (word_global minus_one) later refl
      (All-append IsSet (replicate p.ranges (word_global 0)) (name_globals (kinds_of p.globals)) (All-replicate IsSet p.ranges (word_global 0) refl)
      (names_set (kinds_of p.globals)))))

  not_main : (k : ℕ) → k < 1 → slice_index_or (codes "main" ∷ []) k (codes "memory") ≡ codes "memory" → ⊥
  not_main zero lt same = let lengths : 4 ≡ 6 = ap length same in omega (arith, lengths)
  not_main (suc k) lt same = omega (arith, lt)

  two_names : AreDistinct (codes "main" ∷ (codes "memory" ∷ []))
  two_names zero lt c = omega (arith, c.1)
  two_names (suc zero) lt c = not_main c.0 c.1 c.2
  two_names (suc (suc i)) lt c = omega (arith, lt)

  main_there : length (imports_of p) + length p.routines < length (all_callees p) + length (imports_of p)
  main_there =
      let l = length-append (map (routine_callee p) p.routines) (main_callee p ∷ []) in
      let m = length-map p.routines (routine_callee p) in
      omega (arith, l, m)

  pages_few : (n : ℕ) → n ≤ 2 ^ 32 → pages_for n ≤ 65536
  pages_few n h = omega (arith, h)

  level_ok : length (memory_of (texts_of p)) ≤ 2 ^ 32 → LevelOk (module_of p)
  level_ok h = record {
    imports_ok = imports_ok;
    tables_ok = All-nil _;
    one_table = omega arith;
    memories_ok = All-cons (LimitsOk 65536) _ [] (omega arith, pages_few (length (memory_of (texts_of p))) h) (All-nil _);
    one_memory = omega arith;
    globals_ok = globals_set;
    exports_ok = both_there (module_of p) (length (imports_of p) + length p.routines) (let a = main_there in let l = numbers_length p in omega (arith, a, l)) (omega arith);
    names_ok = two_names;
    start_ok = tt;
    elems_ok = All-nil _;
    data_ok = All-cons (DataOk (module_of p)) _ [] (record { of_memory = omega arith; offset = refl }) (All-nil _);
  }

  pages_enough : (n : ℕ) → pages_for n ≤ 65536 → n ≤ 2 ^ 32
  pages_enough n h = omega (arith, h)

  pub module_ok : IsSorted p → (length (memory_of (texts_of p)) ≤ 2 ^ 32) ↔ ModuleOk (module_of p)
  module_ok s = (
    λ h. record { level = level_ok h; funcs_ok = all_functions_ok (from_T (is_sorted p) s) },
    λ (m : ModuleOk (module_of p)). pages_enough (length (memory_of (texts_of p))) (m.level.memories_ok 0 (memory_for (length (memory_of (texts_of p)))) (omega arith)).1,
  )
