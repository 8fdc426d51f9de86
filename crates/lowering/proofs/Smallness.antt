-- The code of a well-sorted script that is small enough can be emitted.
use Rattle.std.proofs.Common.{◌≡◌, ℕ, zero, suc, ◌+◌, ◌<◌, ◌≤◌, Bool, true, false, List, [], ◌∷◌, ◌++◌, Option, Some, None, length, map, get_or, drop, drop-cons, refl, sym, ap, ◌∙◌, arith, length-append}
use Rattle.std.specs.Prelude.{◌&&◌}
use Rattle.std.proofs.lemmas.Bool.{and_parts}
use Rattle.std.proofs.lemmas.List.{length-map}
use Rattle.mid_program.specs.Mid.{Kind, Unboxed, Declared, Routine, Program, Steps}
use Rattle.mid_program.specs.View.{view_routine}
use Rattle.mid_program.specs.declared.program.Routine.{Routine as RoutineCode}
use Rattle.mid_program.specs.Sorted.{all_differ, announced_names, are_lenders, context_of, has_kind, kinds_of, parts_sorted, routines_sorted, steps_sorted, IsSorted}
use Rattle.mid_program.proofs.Sorted.{from_T}
use Rattle.lower_model.proofs.QuickNames.{some_is}
use Rattle.lower_model.proofs.Reading.{kind_below}
use Rattle.lower_expressions.specs.Fits.{LendersFit}
use Rattle.lower_model.specs.Functions.{layout_of, main_bases, main_callee, routine_bases, routine_callee}
use Rattle.lower_model.specs.Machine.{Callee}
use Rattle.lower_model.specs.Modules.{all_callees}
use Rattle.lower_model.specs.Places.{Bases, steps_arrays, steps_iterators, steps_room}
use Rattle.lower_pieces.specs.Bounds.{most_places}
use Rattle.lower_modules.proofs.LengthsLemmas.{local_count}
use Rattle.lower_modules.specs.Fits.{FewLocals}
use Rattle.lower_layout.specs.Spans.{IsSmall}
use Rattle.lower_modules.specs.View.{view_function, view_functions}
use Rattle.lower_modules.specs.declared.function.Function.{Function}
use Rattle.lowering.specs.Limits.{IsShallow, MainIsSmall, RoutineIsSmall}
use Rattle.lowering.specs.StepFits.{PartsFit, StepsFit}
use Rattle.lowering.proofs.Fitting.{Named, steps_fit}

lenders_below : (ks : List Kind) (lenders : List (Option ℕ)) → length ks ≤ most_places → are_lenders ks lenders ≡ true → LendersFit lenders
lenders_below ks [] le h place name is = cc
lenders_below ks (None ∷ lenders) le h zero name is = cc
lenders_below ks (None ∷ lenders) le h (suc place) name is = lenders_below ks lenders le h place name is
lenders_below ks (Some lender ∷ lenders) le h zero name is =
    let lt = kind_below ks lender Unboxed (and_parts (has_kind ks lender Unboxed) (are_lenders ks lenders) h).0 in
    let same = some_is lender name is in
    omega (arith, lt, same, le)
lenders_below ks (Some lender ∷ lenders) le h (suc place) name is = lenders_below ks lenders le (and_parts (has_kind ks lender Unboxed) (are_lenders ks lenders) h).1 place name is

-- the names that lend are few enough
pub lenders_fit : (p : Program) → IsSmall p → IsSorted p → LendersFit p.lenders
lenders_fit p small sorted =
    let ks = kinds_of p.globals in
    let rest = routines_sorted p p.routines && parts_sorted p (context_of p []) in
    let s1 = and_parts (all_differ (announced_names p)) (are_lenders ks p.lenders && rest) (from_T _ sorted) in
    let s2 = and_parts (are_lenders ks p.lenders) rest s1.1 in
    let e = length-map p.globals (λ (d : Declared). d.kind) in
    let few = small.0 in
    lenders_below ks p.lenders (omega (arith, e, few)) s2.0

module _ (p : Program) (small : IsSmall p) (few : length p.routines ≤ most_places) where
  named : (ks : List Kind) (b : Bases) → length ks ≤ most_places → Named (context_of p ks) (layout_of p b)
  named ks b le = record {
    texts = let e = length-append p.texts (announced_names p) in omega (arith, e);
    globals = let e = length-map p.globals (λ (d : Declared). d.kind) in let s = small.0 in omega (arith, e, s);
    ranges = small.1.0;
    calls = refl;
    functions = let e = length-map p.routines (λ (r : Routine). r.parameters) in omega (arith, e, few);
    parameters = le;
  }

  -- statements that need no more than a function with few locals has
  part_fits : (ks : List Kind) (b : Bases) (o : Bool) (ss : Steps) → length ks ≤ most_places → FewLocals b → steps_room ss ≤ b.temporaries → steps_iterators ss ≤ b.iterators → steps_arrays ss ≤ b.arrays → IsShallow ss →
      steps_sorted (context_of p ks) o false ss ≡ true → StepsFit (layout_of p b) ss zero zero
  part_fits ks b o ss le f t u w shallow s =
      let c = local_count b in
      let l = f.locals in
      steps_fit (named ks b le) o false ss 0 0 s
      (record { places = omega (arith, c, l, t); arrays = omega (arith, c, l, w); iterators = omega (arith, c, l, u); labels = omega (arith, shallow) })

  pub routine_fits : (r : Routine) → RoutineIsSmall r → steps_sorted (context_of p r.parameters) true false r.body ≡ true → StepsFit (layout_of p (routine_bases r)) r.body zero zero
  routine_fits r f s = part_fits r.parameters (routine_bases r) true r.body f.0.parameters f.0 (omega arith) (omega arith) (omega arith) f.1 s

  pub main_fits : MainIsSmall p → parts_sorted p (context_of p []) ≡ true → PartsFit (layout_of p (main_bases p)) p
  main_fits f s =
      let b = main_bases p in
      let s1 = and_parts (steps_sorted (context_of p []) false false p.begin) (steps_sorted (context_of p []) false false p.items && steps_sorted (context_of p []) false false p.end) s in
      let s2 = and_parts (steps_sorted (context_of p []) false false p.items) (steps_sorted (context_of p []) false false p.end) s1.1 in (
        part_fits [] b false p.begin (omega arith) f.0 (omega arith) (omega arith) (omega arith) f.1.0 s1.0,
        (
          part_fits [] b false p.items (omega arith) f.0 (omega arith) (omega arith) (omega arith) f.1.1.0 s2.0,
          part_fits [] b false p.end (omega arith) f.0 (omega arith) (omega arith) (omega arith) f.1.1.1 s2.1,
        ),
      )

-- the first of the functions that are left
pub routines_left : (rs : List RoutineCode) (i : ℕ) (r : RoutineCode) → i < length rs → r ≡ get_or rs i r → map view_routine (drop i rs) ≡ view_routine r ∷ map view_routine (drop (i + 1) rs)
routines_left rs i r lt at =
    let next : suc i ≡ i + 1 = omega arith in
    ap (map view_routine) (drop-cons rs i r lt)
    ∙ (λ j. view_routine (sym at j) ∷ map view_routine (drop (next j) rs))

-- one more function, before those of the functions that are left

moved : (before : List Function) (f : Function) (others : List Callee) → view_functions (before ++ f ∷ []) ++ others ≡ view_functions before ++ view_function f ∷ others
moved [] f others = refl
moved (g ∷ gs) f others = ap (λ (fs : List Callee). view_function g ∷ fs) (moved gs f others)

pub more_functions : (p : Program) (before after : List Function) (f : Function) (r : Routine) (these rest : List Routine) (all : List Callee) → after ≡ before ++ f ∷ [] → view_function f ≡ routine_callee p r → these ≡ r ∷ rest →
    view_functions before ++ map (routine_callee p) these ≡ all → view_functions after ++ map (routine_callee p) rest ≡ all
more_functions p before after f r these rest all pushed same left h =
    ap (λ (fs : List Function). view_functions fs ++ map (routine_callee p) rest) pushed ∙ moved before f (map (routine_callee p) rest)
    ∙ ap (λ (g : Callee). view_functions before ++ g ∷ map (routine_callee p) rest) same ∙ ap (λ (rs : List Routine). view_functions before ++ map (routine_callee p) rs) (sym left) ∙ h

-- `main` after all others
pub with_main : (p : Program) (before after : List Function) (f : Function) → after ≡ before ++ f ∷ [] → view_function f ≡ main_callee p → view_functions before ≡ map (routine_callee p) p.routines → view_functions after ≡ all_callees p
with_main p before after f pushed same h =
    ap view_functions pushed ∙ together before f ∙ (λ i. h i ++ same i ∷ [])
  where
    together : (gs : List Function) (f : Function) → view_functions (gs ++ f ∷ []) ≡ view_functions gs ++ view_function f ∷ []
    together [] f = refl
    together (g ∷ gs) f = ap (λ (fs : List Callee). view_function g ∷ fs) (together gs f)
