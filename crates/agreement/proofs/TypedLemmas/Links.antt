-- The module links with a host that has the table's imports: each is there, `main` is exported, and the texts lie within the memory.
use Rattle.std.proofs.Common.{◌≡◌, ℕ, suc, ◌+◌, ◌*◌, ◌≤◌, true, List, [], ◌∷◌, ◌++◌, length, Some, None, refl, sym, ap, ap₂, ◌∙◌, arith}
use Rattle.std.specs.Prelude.{slice_get, map, if◌then◌else◌}
use Rattle.std.proofs.lemmas.List.{length-map}
use Rattle.std.proofs.lemmas.List.Elements.{All-cons, All-nil}
use Rattle.sem_primitives.specs.declared.table.Primitive.TheVariants as row
use Rattle.wasm_types.specs.Syntax.{Signature}
use Rattle.wasm_types.specs.Typing.{callee_in}
use Rattle.wasm_model.specs.Links.{main_of, main_type, number_if, number_for, numbers_for, SegmentsFit, ElemFits, DataFits}
use Rattle.wasm_model.specs.Machines.{agree, same_signature}
use Rattle.wasm_model.proofs.Types.{decided}
use Rattle.mid_program.specs.Mid.{Routine, Program}
use Rattle.lower_model.specs.Functions.{texts_of, routine_callee, main_callee}
use Rattle.host_imports.specs.Imports.{import_type, module_name}
use Rattle.host_imports.specs.Names.{import_number, import_name}
use Rattle.lower_model.specs.Modules.{all_callees, imports_of, callee_type, imported_from, pages_for, module_of}
use Rattle.lower_model.specs.Places.{memory_of}
use Rattle.host_imports.specs.declared.import.Import.{Import}
use Rattle.host_imports.specs.declared.import.Import.TheVariants.{OfPrimitive, Variadic}
use Rattle.host_imports.specs.declared.import.VariadicImport.TheVariants.{Sprintf}
use Rattle.agreement.specs.Typed.Finds.{table_finds}
use Rattle.agreement.proofs.TypedLemmas.Places.{there_behind}
use Rattle.agreement.proofs.TypedLemmas.Numbers.{callee_typed}

found : (i : Import) → table_finds module_name (import_name i) ≡ Some (import_number i, import_type i)
found (OfPrimitive row.Num) = refl
found (OfPrimitive q) = refl
found (Variadic Sprintf) = refl
found (Variadic l) = refl
found i = refl

same_self : (s : Signature) → same_signature s s ≡ true
same_self s = sym (decided true s s (λ i. refl, λ e. refl))

module _ (p : Program) where
  -- some of the imports, the first of which has the n-th type
  numbers_there : (n : ℕ) (is : List Import) (rest : List Signature) →
      ((i j : ℕ) → n + i ≡ j → slice_get (module_of p).types j ≡ slice_get (map import_type is ++ rest) i) →
      map (number_for table_finds (module_of p)) (imported_from n is) ≡ map (λ i. Some (import_number i)) is
  numbers_there n [] rest t = refl
  numbers_there n (i ∷ is) rest t = ap₂ (λ x xs. x ∷ xs) here (numbers_there (suc n) is rest (λ k j e. t (suc k) j (omega (arith, e))))
    where
      here : number_if (module_of p) n (table_finds module_name (import_name i)) ≡ Some (import_number i)
      here =
          ap (number_if (module_of p) n) (found i)
          ∙ (ap (λ s. if agree (Some (import_type i)) s then Some (import_number i) else None) (t 0 n (omega arith))
          ∙ ap (λ b. if b then Some (import_number i) else None) (same_self (import_type i)))

  pub imports_there : numbers_for table_finds (module_of p) ≡ map (λ i. Some (import_number i)) (imports_of p)
  imports_there =
      numbers_there 0 (imports_of p) (map callee_type (all_callees p))
      (λ i j e. let e1 : j ≡ i = omega (arith, e) in ap (slice_get (module_of p).types) e1)

  last_there : (rs : List Routine) → slice_get (map callee_type (map (routine_callee p) rs ++ main_callee p ∷ [])) (length rs) ≡ Some main_type
  last_there [] = refl
  last_there (r ∷ rs) = last_there rs

  abbrev main_number : ℕ
  main_number = length (imports_of p) + length p.routines

  main_typed : callee_in (module_of p) main_number ≡ Some main_type
  main_typed =
      let l = length-map (imports_of p) import_type in
      callee_typed p main_number
      ∙ (there_behind (map import_type (imports_of p)) (map callee_type (all_callees p)) (length p.routines) main_number (omega (arith, l))
      ∙ last_there p.routines)

  pub main_exported : main_of (module_of p) ≡ Some main_number
  main_exported = ap (λ s. elim (if agree (Some main_type) s then Some main_number else None) [ Some y ↦ Some y | None ↦ None ]) main_typed

  enough : (n : ℕ) → 0 + n ≤ pages_for n * 65536
  enough n = omega arith

  pub segments_fit : SegmentsFit (module_of p)
  segments_fit =
      let n = length (memory_of (texts_of p)) in
      (All-nil (ElemFits 0), All-cons (DataFits (pages_for n * 65536)) _ [] (enough n) (All-nil (DataFits (pages_for n * 65536))))
