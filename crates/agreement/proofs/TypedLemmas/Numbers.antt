-- Functions of a module are numbered in the order of their types, imports first.
use Rattle.std.proofs.Common.{◌≡◌, ⊎_elim, ℕ, zero, suc, ◌+◌, ◌<◌, Bool, true, List, [], ◌∷◌, ◌++◌, length, Option, Some, None, refl, sym, ap, ◌∙◌, subst, arith}
use Rattle.std.specs.Prelude.{slice_get, map}
use Rattle.std.proofs.lemmas.Bool.{cases_lt}
use Rattle.std.proofs.lemmas.List.{length-map, length-append}
use Rattle.std.proofs.lemmas.Option.{slice_get_past}
use Rattle.wasm_types.specs.Syntax.{Signature, ImportForm, FuncForm}
use Rattle.wasm_types.specs.Typing.{function_types, callee_in}
use Rattle.mid_program.specs.Mid.{Program}
use Rattle.host_imports.specs.Imports.{imports, import_type}
use Rattle.lower_model.specs.Machine.{Callee}
use Rattle.lower_model.specs.Modules.{all_callees, any_calls, called_imports, imports_of, new_number, callee_type, imported_from, functions_from, module_of}
use Rattle.host_imports.specs.declared.import.Import.{Import}
use Rattle.agreement.proofs.TypedLemmas.Places.{all_types}
use Rattle.agreement.proofs.TypedLemmas.Chosen.{chosen_map, renumbered_there}

-- numbers one after the other, from a on
abbrev InOrder : ℕ → List ℕ → Type 0
InOrder a [] = Unit {0}
InOrder a (n ∷ ns) = (n ≡ a) × InOrder (suc a) ns

order_both : (a c : ℕ) (ms ns : List ℕ) → a + length ms ≡ c → InOrder a ms → InOrder c ns → InOrder a (ms ++ ns)
order_both a c [] ns e h g = let e1 : c ≡ a = omega (arith, e) in subst (λ x. InOrder x ns) e1 g
order_both a c (m ∷ ms) ns e h g = (h.0, order_both (suc a) c ms ns (omega (arith, e)) h.1 g)

order_at : (a : ℕ) (ns : List ℕ) (i j : ℕ) → a + i ≡ j → i < length ns → InOrder a ns → slice_get ns i ≡ Some j
order_at a [] i j e lt h = absurd (omega (arith, lt))
order_at a (n ∷ ns) zero j e lt h = let e1 : a ≡ j = omega (arith, e) in ap Some (h.0 ∙ e1)
order_at a (n ∷ ns) (suc i) j e lt h = order_at (suc a) ns i j (omega (arith, e)) (omega (arith, lt)) h.1

abbrev of_import : ImportForm → ℕ
of_import i = i.ty

abbrev of_function : FuncForm → ℕ
of_function f = f.ty

imports_in_order : (a : ℕ) (is : List Import) → InOrder a (map of_import (imported_from a is))
imports_in_order a [] = tt
imports_in_order a (i ∷ is) = (refl, imports_in_order (suc a) is)

functions_in_order : (bs : List Bool) (a : ℕ) (fs : List Callee) → InOrder a (map of_function (functions_from bs a fs))
functions_in_order bs a [] = tt
functions_in_order bs a (f ∷ fs) = (refl, functions_in_order bs (suc a) fs)

imported_length : (a : ℕ) (is : List Import) → length (imported_from a is) ≡ length is
imported_length a [] = refl
imported_length a (i ∷ is) = ap suc (imported_length (suc a) is)

functions_length : (bs : List Bool) (a : ℕ) (fs : List Callee) → length (functions_from bs a fs) ≡ length fs
functions_length bs a [] = refl
functions_length bs a (f ∷ fs) = ap suc (functions_length bs (suc a) fs)

module _ (p : Program) where
  abbrev numbers : List ℕ
  numbers = function_types (module_of p)

  in_order : InOrder 0 numbers
  in_order =
      let l = imported_length 0 (imports_of p) in
      let k = length-map (imported_from 0 (imports_of p)) of_import in
      order_both 0 (length (imports_of p)) (map of_import (imported_from 0 (imports_of p)))
      (map of_function (functions_from (called_imports p) (length (imports_of p)) (all_callees p))) (omega (arith, k, l))
      (imports_in_order 0 (imports_of p)) (functions_in_order (called_imports p) (length (imports_of p)) (all_callees p))

  -- as many as types
  pub numbers_length : length numbers ≡ length (imports_of p) + length (all_callees p)
  numbers_length =
      let a = imported_length 0 (imports_of p) in
      let c = functions_length (called_imports p) (length (imports_of p)) (all_callees p) in
      let i = length-map (imported_from 0 (imports_of p)) of_import in
      let f = length-map (functions_from (called_imports p) (length (imports_of p)) (all_callees p)) of_function in
      let q = length-append (map of_import (imported_from 0 (imports_of p)))
      (map of_function (functions_from (called_imports p) (length (imports_of p)) (all_callees p))) in
      omega (arith, a, c, i, f, q)

  pub types_length : length (module_of p).types ≡ length (imports_of p) + length (all_callees p)
  types_length =
      let i = length-map (imports_of p) import_type in
      let f = length-map (all_callees p) callee_type in
      let q = length-append (map import_type (imports_of p)) (map callee_type (all_callees p)) in
      omega (arith, i, f, q)

  abbrev type_at : Option ℕ → Option Signature
  type_at o = elim o [ None ↦ None | Some n ↦ slice_get (module_of p).types n ]

  -- the n-th function has the n-th type
  pub callee_typed : (n : ℕ) → callee_in (module_of p) n ≡ slice_get (module_of p).types n
  callee_typed n =
      ⊎_elim
      (λ lt. ap type_at (order_at 0 numbers n n (omega arith) lt in_order))
      (λ le. ap type_at (slice_get_past numbers n le) ∙ sym
      (slice_get_past (module_of p).types n (let a = numbers_length in let c = types_length in omega (arith, le, a, c))))
      (cases_lt n (length numbers))

  -- what is called has its type under its new number
  pub called_there : (n : ℕ) → any_calls n (all_callees p) ≡ true →
      callee_in (module_of p) (new_number (called_imports p) n) ≡ slice_get (all_types p) n
  called_there n h =
      callee_typed (new_number (called_imports p) n)
      ∙ (ap (λ l. slice_get (l ++ map callee_type (all_callees p)) (new_number (called_imports p) n))
      (chosen_map import_type (called_imports p) imports)
      ∙ renumbered_there p (map import_type imports) (map callee_type (all_callees p)) n refl h)
