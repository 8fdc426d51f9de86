-- The code of scripts is well sorted.
use Rattle.std.proofs.Common.{◌≡◌, ℕ, ◌+◌, ◌≤◌, true, false, T, List, [], ◌∷◌, ◌++◌, refl, sym, ap, ap₂, subst, lt-ltb, arith}
use Rattle.std.specs.Prelude.{is_some, nat_lt, map, Option, Some, None}
use Rattle.awk_grammar.specs.Trees.{Stmts, Item, Pattern}
use Rattle.awk_grammar.specs.Trees as item
use Rattle.awk_grammar.specs.Marks.{marks}
use Rattle.sem_scripts.specs.Names.{Name, Function, Resolved, Scope}
use Rattle.sem_scripts.specs.Items.{top, print_record, pattern_ranges}
use Rattle.sem_scripts.specs.Ranges.{range_count}
use Rattle.mid_program.specs.Texts.{texts_in, all_texts, stmt_texts, stmts_texts, pattern_texts, item_texts, items_texts, functions_texts, texts_of_script}
use Rattle.mid_program.specs.Mid.{Step, Block, Declared, Routine}
use Rattle.mid_program.specs.Sorted.{Context, announced_names, context_of, routines_sorted, sorted, step_sorted, steps_sorted, is_sorted, IsSorted}
use Rattle.mid_program.specs.Translation.{steps_code, where_code, items_code, begin_code, end_code, kind_of, declared_code, routine_code, program_with, program_of}
use Rattle.mid_program.proofs.Lenders.{no_lenders}
use Rattle.script_code.specs.Fits.{parameters_named, scope_at, is_met, StmtsFit, PatternFits, ItemsFit, FunctionsFit, function_names, all_names, Fits}
use Rattle.script_code.proofs.Sound.{AllWithin, parts}
use Rattle.script_code.proofs.Good.{is_within}
use Rattle.script_code.proofs.Places.{Agrees}
use Rattle.script_code.proofs.Steps.{test_fine, steps_fine}
use Rattle.script_code.proofs.Contexts.{agreement}
use Rattle.script_code.proofs.Names.{AllNamed, all_named, later_differ}
use Rattle.script_code.proofs.Texts.{script_within}

module _ (c : Context) (texts : List (List ℕ)) (script : Resolved) where
  abbrev scope : Scope
  scope = top script

  text_parts : (ts us : List (List ℕ)) → AllWithin texts (ts ++ us) → AllWithin texts ts × AllWithin texts us
  text_parts ts us h = parts (is_within texts) ts us h

  body_fine : (place : Option (List ℕ)) → Agrees c texts (scope_at script place) → (ss : Stmts) → StmtsFit script place ss → AllWithin texts (stmts_texts ss) → steps_sorted c (is_some place) false (steps_code texts (scope_at script place) ss) ≡ true
  body_fine place agrees ss f h = steps_fine c texts script place agrees ss (is_some place) false f.formed f.placed (f.met, h)

  module _ (agrees : Agrees c texts scope) where
    print_fine : steps_sorted c false false (steps_code texts scope print_record) ≡ true
    unfolding stmt_texts stmts_texts texts_in all_texts
    print_fine = steps_fine c texts script None agrees print_record false false ((tt, tt), tt) refl (refl, refl)

    where_fine : (i : ℕ) (p : Pattern) (s : Step) → PatternFits script p → AllWithin texts (pattern_texts p) → i + pattern_ranges p ≤ c.ranges → step_sorted c false false s ≡ true → step_sorted c false false (where_code texts scope i p s) ≡ true
    unfolding sorted step_sorted steps_sorted
    where_fine i (item.One t) s f h l e = rw (test_fine c texts script None agrees t f.formed (f.met, h), e) refl
    where_fine i (item.Between t u) s f h l e =
        let m = parts (is_met script) (marks None t) (marks None u) f.met in
        let q = text_parts (texts_in t) (texts_in u) h in
        rw (lt-ltb i c.ranges (omega (arith, l)), test_fine c texts script None agrees t f.formed.0 (m.0, q.0), test_fine c texts script None agrees u f.formed.1 (m.1, q.1), e) refl

    items_fine : (i : ℕ) (is : List Item) → ItemsFit script is → AllWithin texts (items_texts is) → i + range_count is ≤ c.ranges → steps_sorted c false false (items_code texts scope i is) ≡ true
    unfolding step_sorted steps_sorted
    items_fine i [] f h l = refl
    items_fine i (item.Always ss ∷ is) f h l =
        let q = text_parts (item_texts (item.Always ss)) (items_texts is) h in
        rw (body_fine None agrees ss f.0 q.0, items_fine i is f.1 q.1 (omega (arith, l))) refl
    items_fine i (item.When p ss ∷ is) f h l =
        let q = text_parts (item_texts (item.When p ss)) (items_texts is) h in
        let r = text_parts (pattern_texts p) (stmts_texts ss) q.0 in
        rw (where_fine i p (Block (steps_code texts scope ss)) f.0.0 r.0 (omega (arith, l)) (body_fine None agrees ss f.0.1 r.1), items_fine (pattern_ranges p + i) is f.1 q.1 (omega (arith, l))) refl
    items_fine i (item.Lone p ∷ is) f h l =
        let q = text_parts (item_texts (item.Lone p)) (items_texts is) h in
        rw (where_fine i p (Block (steps_code texts scope print_record)) f.0 q.0 (omega (arith, l)) print_fine, items_fine (pattern_ranges p + i) is f.1 q.1 (omega (arith, l))) refl
    items_fine i (it ∷ is) f h l = items_fine i is f.1 (text_parts (item_texts it) (items_texts is) h).1 (omega (arith, l))

    begin_fine : (is : List Item) → ItemsFit script is → AllWithin texts (items_texts is) → steps_sorted c false false (begin_code texts scope is) ≡ true
    unfolding step_sorted steps_sorted
    begin_fine [] f h = refl
    begin_fine (item.Begin ss ∷ is) f h = let q = text_parts (stmts_texts ss) (items_texts is) h in rw (body_fine None agrees ss f.0 q.0, begin_fine is f.1 q.1) refl
    begin_fine (it ∷ is) f h = begin_fine is f.1 (text_parts (item_texts it) (items_texts is) h).1

    end_fine : (is : List Item) → ItemsFit script is → AllWithin texts (items_texts is) → steps_sorted c false false (end_code texts scope is) ≡ true
    unfolding step_sorted steps_sorted
    end_fine [] f h = refl
    end_fine (item.End ss ∷ is) f h = let q = text_parts (stmts_texts ss) (items_texts is) h in rw (body_fine None agrees ss f.0 q.0, end_fine is f.1 q.1) refl
    end_fine (it ∷ is) f h = end_fine is f.1 (text_parts (item_texts it) (items_texts is) h).1

-- Names.

global_names : (ns : List Name) → map (λ (d : Declared). d.name) (map declared_code ns) ≡ map (λ (n : Name). n.name) ns
global_names [] = refl
global_names (n ∷ ns) = ap (λ xs. n.name ∷ xs) (global_names ns)

module _ (texts : List (List ℕ)) (script : Resolved) where
  routine_names : (fs : List Function) → map (λ (r : Routine). r.name) (map (routine_code texts script) fs) ≡ map (λ (f : Function). f.name) fs
  routine_names [] = refl
  routine_names (f ∷ fs) = ap (λ xs. f.name ∷ xs) (routine_names fs)

  same_names : announced_names (program_with texts script) ≡ all_names script
  same_names = ap₂ ◌++◌ (global_names script.globals) (routine_names script.functions)

  -- Functions.

  -- the code of a body, where its function has these parameters
  abbrev BodyFine : Function → List Name → Type 0
  BodyFine g ps = steps_sorted (context_of (program_with texts script) (map kind_of ps)) true false (steps_code texts (record { script = script; parameters = ps }) g.body) ≡ true

  routines_fine : (fs : List Function) → AllNamed script.functions fs → FunctionsFit script fs → AllWithin texts (functions_texts fs) → routines_sorted (program_with texts script) (map (routine_code texts script) fs) ≡ true
  routines_fine [] n f h = refl
  routines_fine (g ∷ fs) n f h =
      let q = parts (is_within texts) (stmts_texts g.body) (functions_texts fs) h in
      let ps = parameters_named script g.name in
      let b = body_fine (context_of (program_with texts script) (map kind_of ps)) texts script (Some g.name) (agreement texts script ps) g.body f.0 q.0 in
      rw (subst (BodyFine g) (ap (λ (k : Function). k.parameters) n.0) b, routines_fine fs n.1 f.1 q.1) refl

  program_fine : Fits script → AllWithin texts (items_texts script.items ++ functions_texts script.functions) → is_sorted (program_with texts script) ≡ true
  program_fine f h =
      let q = parts (is_within texts) (items_texts script.items) (functions_texts script.functions) h in
      let c = context_of (program_with texts script) [] in
      let a = agreement texts script [] in
      let n = all_named script.functions (later_differ (map (λ (n : Name). n.name) script.globals) (function_names script.functions) f.named_apart) in
      rw (same_names, f.named_apart, no_lenders c.globals c.lenders a.unlent, routines_fine script.functions n f.functions q.1, begin_fine c texts script a script.items f.items q.0, items_fine c texts script a 0 script.items f.items q.0 (omega arith), end_fine c texts script a script.items f.items q.0) refl

pub script_sorted : (script : Resolved) → Fits script → IsSorted (program_of script)
script_sorted script f = subst T (sym (program_fine (texts_of_script script) script f (script_within script))) tt
