-- The module of well-sorted code has bytes, or it is past a limit.
use Rattle.std.proofs.Common.{◌≡◌, ◌⊎◌, inl, inr, ℕ, zero, suc, ◌+◌, ◌^◌, ◌<◌, ◌≤◌, T, Bool, true, false, cond, ltb, List, [], ◌∷◌, ◌++◌, length, map, replicate, refl, ap, ◌∙◌, arith, length-append}
use Rattle.std.specs.List.{AllByRecursion, Contains}
use Rattle.std.specs.Prelude.{◌&&◌, ◌↔◌, codes, slice_index_or}
use Rattle.std.specs.Str.{IsAscii, IsUtf8}
use Rattle.std.proofs.lemmas.Bool.{and_parts, cases_lt, ltb-true}
use Rattle.std.proofs.lemmas.Str.{IsUtf8-from_ascii}
use Rattle.sem_primitives.specs.declared.table.Primitive.{Primitive}
use Rattle.sem_primitives.specs.declared.table.Primitive.TheVariants as row
use Rattle.wasm_types.specs.declared.types.Limits.{Limits}
use Rattle.wasm_types.specs.Syntax.{FuncForm, GlobalForm, ImportForm}
use Rattle.wasm_types.specs.Typing.{ModuleOk}
use Rattle.mid_program.specs.Mid.{Kind, Program, Routine}
use Rattle.mid_program.specs.Sorted.{IsSorted, all_differ, announced_names, are_lenders, context_of, is_sorted, kinds_of, parts_sorted, routines_sorted, steps_sorted}
use Rattle.lower_model.specs.Functions.{layout_of, main_bases, main_callee, routine_bases, routine_callee, texts_of}
use Rattle.host_imports.specs.Imports.{module_name}
use Rattle.host_imports.specs.Names.{import_name}
use Rattle.lower_model.specs.Machine.{Callee}
use Rattle.lower_model.specs.Modules.{all_callees, called_imports, functions_from, imported_from, imports_of, module_of, name_globals, renumbered, word_global}
use Rattle.lower_model.specs.Places.{Bases, handle_types, local_types, memory_of, temporary_types}
use Rattle.host_imports.specs.declared.import.Import.{Import}
use Rattle.host_imports.specs.declared.import.Import.TheVariants.{OfPrimitive, Variadic, Arg, Drop, IterFree, FreeArray}
use Rattle.host_imports.specs.declared.import.VariadicImport.TheVariants.{Sprintf, Print, Printf}
use Rattle.module_writer.specs.Limits.{HaveWords, HoldsWords, PassesALimit}
use Rattle.module_writer.specs.Limits as limit
use Rattle.module_writer.specs.Size.{data_size, global_size, module_size}
use Rattle.module_writer.proofs.Typed.{HasBytes, bytes_or_limit, found, one_of_each, section_each, section_most}
use Rattle.agreement.specs.Sizes.Past.{IsPast, bytes, locals, blocks}
use Rattle.agreement.proofs.SizesLemmas.Fits.{both_true, same_fits, words}
use Rattle.agreement.proofs.SizesLemmas.Sorted.{steps_small}
use Rattle.agreement.proofs.SizesLemmas.Stepped.{main_fits, routine_fits}

-- ---- names

abbrev all_ascii : List ℕ → Bool
all_ascii [] = true
all_ascii (c ∷ cs) = cond (ltb c 128) (all_ascii cs) false

each_ascii : (cs : List ℕ) → all_ascii cs ≡ true → IsAscii cs
each_ascii [] e i = omega arith
each_ascii (c ∷ cs) e zero = ltb-true c 128 (both_true (ltb c 128) (all_ascii cs) e).0
each_ascii (c ∷ cs) e (suc i) = each_ascii cs (both_true (ltb c 128) (all_ascii cs) e).1 i

text : (cs : List ℕ) → all_ascii cs ≡ true → IsUtf8 cs
text cs e = IsUtf8-from_ascii cs (each_ascii cs e)

primitive_text : (p : Primitive) → all_ascii (import_name (OfPrimitive p)) ≡ true
primitive_text row.Num = refl
primitive_text row.Lit = refl
primitive_text row.Uninit = refl
primitive_text row.Dup = refl
primitive_text row.ToNum = refl
primitive_text row.IntOf = refl
primitive_text row.Truth = refl
primitive_text row.Compare = refl
primitive_text row.Concat = refl
primitive_text row.Pow = refl
primitive_text row.Fail = refl
primitive_text row.GetSpecial = refl
primitive_text row.SetSpecial = refl
primitive_text row.Field = refl
primitive_text row.SetField = refl
primitive_text row.NewArray = refl
primitive_text row.Elem = refl
primitive_text row.SetElem = refl
primitive_text row.Has = refl
primitive_text row.Delete = refl
primitive_text row.Join = refl
primitive_text row.Iter = refl
primitive_text row.IterNext = refl
primitive_text row.Length = refl
primitive_text row.Matches = refl
primitive_text row.Match = refl
primitive_text row.Sub = refl
primitive_text row.SubResult = refl
primitive_text row.Split = refl
primitive_text row.Substr = refl
primitive_text row.SubstrFrom = refl
primitive_text row.Index = refl
primitive_text row.Lower = refl
primitive_text row.Upper = refl
primitive_text row.NextMain = refl
primitive_text row.Getline = refl
primitive_text row.GetlineVar = refl
primitive_text row.GetlineFile = refl
primitive_text row.GetlineVarFile = refl
primitive_text row.Line = refl
primitive_text row.Declare = refl
primitive_text row.StartAssign = refl
primitive_text row.PendingName = refl
primitive_text row.PendingValue = refl
primitive_text row.BeginEnd = refl
primitive_text row.Close = refl
primitive_text row.NextFile = refl
primitive_text row.Clear = refl
primitive_text row.Flush = refl

import_text : (i : Import) → all_ascii (import_name i) ≡ true
import_text (OfPrimitive p) = primitive_text p
import_text (Variadic Sprintf) = refl
import_text (Variadic Print) = refl
import_text (Variadic Printf) = refl
import_text Arg = refl
import_text Drop = refl
import_text IterFree = refl
import_text FreeArray = refl

imports_hold : (n : ℕ) (is : List Import) → AllByRecursion (λ (i : ImportForm). IsUtf8 i.from × IsUtf8 i.name) (imported_from n is)
imports_hold n [] = tt
imports_hold n (i ∷ is) =
    ((text module_name refl, text (import_name i) (import_text i)), imports_hold (suc n) is)

-- ---- globals

ranges_hold : (n : ℕ) (gs : List GlobalForm) → AllByRecursion (λ (g : GlobalForm). HaveWords g.init) gs →
    AllByRecursion (λ (g : GlobalForm). HaveWords g.init) (replicate n (word_global 0) ++ gs)
ranges_hold zero gs h = h
ranges_hold (suc n) gs h = ((omega arith, tt), ranges_hold n gs h)

names_hold : (ks : List Kind) → AllByRecursion (λ (g : GlobalForm). HaveWords g.init) (name_globals ks)
names_hold [] = tt
names_hold (k ∷ ks) = ((omega arith, tt), ((omega arith, tt), names_hold ks))

names_counted : (ks : List Kind) → length (name_globals ks) ≡ length ks + length ks
names_counted [] = refl
names_counted (k ∷ ks) = let h = names_counted ks in omega (arith, h)

-- ---- locals

temporaries_counted : (n : ℕ) → length (temporary_types n) ≡ n + n
temporaries_counted zero = refl
temporaries_counted (suc n) = let h = temporaries_counted n in omega (arith, h)

temporaries_few : (b : Bases) → b.temporaries ≤ length (local_types b)
temporaries_few b =
    let t = temporaries_counted b.temporaries in
    let l = length-append (temporary_types b.temporaries) (handle_types b.iterators ++ handle_types b.arrays) in
    omega (arith, t, l)

abbrev Few : Callee → Type 0
Few f = length f.locals ≤ 50000

callees_few : (bs : List Bool) (n : ℕ) (fs : List Callee) → AllByRecursion (λ (f : FuncForm). length f.locals ≤ 50000) (functions_from bs n fs) →
    AllByRecursion Few fs
callees_few bs n [] h = tt
callees_few bs n (f ∷ fs) h = (h.0, callees_few bs (suc n) fs h.1)

from_T : (b : Bool) → T b → b ≡ true
from_T true t = refl
from_T false t = absurd t

-- ---- the module

module _ (p : Program) (s : is_sorted p ≡ true) (size : module_size (module_of p) ≤ 2 ^ 24)
    (long : AllByRecursion (λ (f : FuncForm). length f.locals ≤ 50000) (module_of p).funcs) where
  s2 : (routines_sorted p p.routines ≡ true) × (parts_sorted p (context_of p []) ≡ true)
  s2 =
      let code = routines_sorted p p.routines && parts_sorted p (context_of p []) in
      let lend = are_lenders (kinds_of p.globals) p.lenders in
      let s1 = and_parts lend code (and_parts (all_differ (announced_names p)) (lend && code) s).1 in
      and_parts (routines_sorted p p.routines) (parts_sorted p (context_of p [])) s1.1

  memory : length (memory_of (texts_of p)) ≤ 2 ^ 24
  memory =
      let a = one_of_each data_size (module_of p).data_segments 0 _ refl in
      let b = section_each data_size (module_of p).data_segments in
      omega (arith, a, b, size)

  names : length (kinds_of p.globals) ≤ 2 ^ 24
  names =
      let l = section_most global_size (λ g. omega arith) (module_of p).globals in
      let a = length-append (replicate p.ranges (word_global 0)) (name_globals (kinds_of p.globals)) in
      let c = names_counted (kinds_of p.globals) in
      omega (arith, l, a, c, size)

  routine_words : (r : Routine) → steps_sorted (context_of p r.parameters) true false r.body ≡ true → Few (routine_callee p r) →
      HaveWords (renumbered (called_imports p) (routine_callee p r).body)
  routine_words r sorted few =
      let t = temporaries_few (routine_bases r) in
      let small = steps_small (context_of p r.parameters) true false r.body sorted (omega (arith, t, few)) in
      let body = (routine_callee p r).body in
      words (renumbered (called_imports p) body)
      (same_fits (called_imports p) body ∙ (routine_fits (layout_of p (routine_bases r)) names memory r.parameters r.body small).has)

  main_words : Few (main_callee p) → HaveWords (renumbered (called_imports p) (main_callee p).body)
  main_words few =
      let begin = steps_sorted (context_of p []) false false p.begin in
      let items = steps_sorted (context_of p []) false false p.items in
      let end = steps_sorted (context_of p []) false false p.end in
      let q1 = and_parts begin (items && end) s2.1 in
      let q2 = and_parts items end q1.1 in
      let t = temporaries_few (main_bases p) in
      let body = (main_callee p).body in
      words (renumbered (called_imports p) body) (same_fits (called_imports p) body ∙ (main_fits (layout_of p (main_bases p)) names memory p
      (steps_small (context_of p []) false false p.begin q1.0 (omega (arith, t, few)))
      (steps_small (context_of p []) false false p.items q2.0 (omega (arith, t, few)))
      (steps_small (context_of p []) false false p.end q2.1 (omega (arith, t, few)))).has)

  functions_hold : (n : ℕ) (rs : List Routine) → routines_sorted p rs ≡ true → AllByRecursion Few (map (routine_callee p) rs ++ main_callee p ∷ []) →
      AllByRecursion (λ (f : FuncForm). HaveWords f.body) (functions_from (called_imports p) n (map (routine_callee p) rs ++ main_callee p ∷ []))
  functions_hold n [] sorted few = (main_words few.0, tt)
  functions_hold n (r ∷ rs) sorted few =
      let q = and_parts (steps_sorted (context_of p r.parameters) true false r.body) (routines_sorted p rs) sorted in
      (routine_words r q.0 few.0, functions_hold (suc n) rs q.1 few.1)

  holds : HoldsWords (module_of p)
  holds = record {
    imports = imports_hold zero (imports_of p);
    tables = tt;
    globals = ((omega arith, tt), ((omega arith, tt), ((omega arith, tt), ranges_hold p.ranges (name_globals (kinds_of p.globals)) (names_hold (kinds_of p.globals)))));
    exports = (text (codes "main") refl, (text (codes "memory") refl, tt));
    elems = tt;
    codes = functions_hold (length (imports_of p)) p.routines s2.0 (callees_few (called_imports p) (length (imports_of p)) (all_callees p) long);
    data_segments = ((omega arith, tt), tt);
  }

  -- it has no table, and its memory is that of its texts
  past : PassesALimit (module_of p) → IsPast (module_of p)
  past (limit.bytes h) = bytes h
  past (limit.locals f c h) = locals f c h
  past (limit.blocks f c h) = blocks f c h
  past (limit.elements l c h) = let n = c.1 in absurd (omega (arith, n))
  past (limit.pages l c h) =
      absurd (by c.0 c.1 c.2)
    where
      by : (k : ℕ) → k < 1 → slice_index_or (module_of p).memories k l ≡ l → ⊥
      by zero n e = let few = memory in let q = ap (λ (x : Limits). x.min) e in omega (arith, few, q, h)
      by (suc k) n e = omega (arith, n)

-- THE CODE HAS BYTES, OR IT IS PAST A LIMIT
pub code_has_bytes : (typed : (p : Program) → IsSorted p → (length (memory_of (texts_of p)) ≤ 2 ^ 32) ↔ ModuleOk (module_of p)) (p : Program) → IsSorted p →
    HasBytes (module_of p) ⊎ IsPast (module_of p)
code_has_bytes typed p sorted = by (cases_lt (2 ^ 24) (module_size (module_of p))) (found (λ (f : FuncForm). length f.locals) 50000 (module_of p).funcs)
  where
    s : is_sorted p ≡ true
    s = from_T (is_sorted p) sorted

    by : (2 ^ 24 < module_size (module_of p)) ⊎ (module_size (module_of p) ≤ 2 ^ 24) →
        AllByRecursion (λ (f : FuncForm). length f.locals ≤ 50000) (module_of p).funcs
        ⊎ ((f : FuncForm) × Contains (module_of p).funcs f × (50000 < length f.locals)) →
        HasBytes (module_of p) ⊎ IsPast (module_of p)
    by (inl high) l = inr (bytes high)
    by (inr low) (inr f) = inr (locals f.0 f.1 f.2)
    by (inr low) (inl long) = elim (bytes_or_limit (module_of p) ((typed p sorted).0 (let m = memory p s low long in omega (arith, m))) (holds p s low long)) [
      | inl has ↦ inl has
      | inr limit ↦ inr (past p s low long limit)
    ]
