-- THE PLACES OF A SCRIPT'S MODULE are those of the script's spots, in the same order.
use Rattle.std.proofs.Common.{◌≡◌, ℕ, zero, suc, ◌+◌, Bool, true, false, List, [], ◌∷◌, ◌++◌, Option, Some, None, map, append_assoc, refl, sym, ap, ◌∙◌, subst, arith}
use Rattle.std.specs.Prelude.{if◌then◌else◌, slice_get, unwrap_or}
use Rattle.std.proofs.lemmas.List.{map-append}
use Rattle.std.proofs.lemmas.Simd.{map-map}
use Rattle.wasm_types.specs.Syntax.{Instruction, Plain, BrTable, Block as Inside, Loop, If, Instructions, Done, Then, FuncForm}
use Rattle.wasm_types.specs.declared.instr.Simple.{Simple}
use Rattle.wasm_types.specs.declared.instr.Simple.TheVariants.{Nop}
use Rattle.awk_grammar.specs.Trees as item
use Rattle.awk_grammar.specs.Trees.{Item, Block}
use Rattle.awk_grammar.specs.Kinds.{Key, functions_by, heads, is_used_as}
use Rattle.awk_grammar.specs.Marks.{Array, script_marks}
use Rattle.folding.specs.Folding.{folded_routine}
use Rattle.sem_scripts.specs.Items.{print_record, pattern_ranges, reads_records, top}
use Rattle.sem_scripts.specs.Kinds.{bodies, resolved, with_bodies}
use Rattle.sem_scripts.specs.Names.{Function, Resolved, function_at}
use Rattle.sem_scripts.specs.Statements.{scope_in}
use Rattle.mid_program.specs.Mid.{Kind, Routine, Slot, Steps, parameters_at}
use Rattle.mid_program.specs.MidMeaning.{routine_at}
use Rattle.mid_program.specs.Texts.{texts_of_script}
use Rattle.mid_program.specs.Translation.{begin_code, end_code, items_code, routine_code, step_code}
use Rattle.value_kinds.specs.Applied.{routines_with, slot_in}
use Rattle.lower_model.specs.Emission.{Layout}
use Rattle.lower_model.specs.Functions.{layout_of, main_bases, main_callee, routine_callee}
use Rattle.lower_model.specs.Machine.{Callee}
use Rattle.lower_model.specs.Modules.{all_callees, called_imports, functions_from, module_of, renumbered, renumbered_one, renumbered_simple}
use Rattle.lower_model.specs.Noted.{begin_rest, out_of_part, routine_rest}
use Rattle.lower_model.specs.Statements.{steps_emitted}
use Rattle.agreement.specs.Places.Statements.{main_starts, routine_starts, starts_in, starts_of, steps_starts}
use Rattle.agreement.specs.Spots.InOrder.{Spot, at_home, begin_spots, end_spots, function_spots, functions_spots, main_spots, pattern_spots, record_spots, spots_in, stmt_spots, stmts_spots}
use Rattle.agreement.specs.Spots.Places.{bases_at, final_program, final_steps, lanes_of, layout_at, outermost_in, place_of, start_in}
use Rattle.agreement.specs.Spots.Probed.{module_place}
use Rattle.agreement.specs.Spots.Spots.{Home, OfBegin, OfEnd, OfFunction, OfRecord, StatementPath}
use Rattle.agreement.proofs.PlacesLemmas.Stepping.{main_has_starts, routine_has_starts}
use Rattle.agreement.proofs.SpotsLemmas.Ordered.{stmt_so, stmts_so, where_so}
use Rattle.agreement.proofs.SpotsLemmas.Scripts.{routine_is}

module _ (script : Resolved) where
  abbrev texts : List (List ℕ)
  texts = texts_of_script script

  abbrev y : Layout
  y = layout_of (final_program script) (main_bases (final_program script))

  abbrev slots : Slot → Slot
  slots = slot_in (lanes_of script).globals []

  abbrev spot_place : Spot → Instructions
  spot_place spot = place_of script spot.0 spot.1

  abbrev places_at : Home → List StatementPath → List Instructions
  places_at home paths = map (place_of script home) paths

  homely : (home : Home) (paths : List StatementPath) → map spot_place (at_home home paths) ≡ places_at home paths
  homely home paths = map-map spot_place (λ path. (home, path)) paths

  -- the places of steps of `main`, and of what comes after them
  abbrev starts : Steps → Instructions → List Instructions
  starts ss k = steps_starts y (final_steps slots ss) zero zero zero zero k

  -- an action before others, where their places are those of the code after it
  next_so : (home : Home) (paths : List StatementPath) (spots : List Spot) (here rest : List Instructions) → places_at home paths ≡ here
      → map spot_place spots ≡ rest
      → map spot_place (at_home home paths ++ spots) ≡ here ++ rest
  next_so home paths spots here rest h k = map-append spot_place (at_home home paths) spots ∙ (λ j. (homely home paths ∙ h) j ++ k j)

  begin_so : (items : List Item) → map spot_place (begin_spots items)
      ≡ starts (begin_code texts (top script) items) (begin_rest (final_program script) (main_bases (final_program script)))
  unfolding step_code
  begin_so [] = refl
  begin_so (item.Begin ss ∷ items) =
      let home = OfBegin items in
      next_so home (stmt_spots (Block ss) []) (begin_spots items) _ _
      (stmt_so y slots texts (top script) (start_in script home) (place_of script home) (λ s part w. refl) (Block ss) [])
      (begin_so items)
  begin_so (item.Function f ps ss ∷ items) = begin_so items
  begin_so (item.End ss ∷ items) = begin_so items
  begin_so (item.Always ss ∷ items) = begin_so items
  begin_so (item.When p ss ∷ items) = begin_so items
  begin_so (item.Lone p ∷ items) = begin_so items
  begin_so (item.Nothing ∷ items) = begin_so items

  end_so : (items : List Item) → map spot_place (end_spots items) ≡ starts (end_code texts (top script) items) out_of_part
  unfolding step_code
  end_so [] = refl
  end_so (item.End ss ∷ items) =
      let home = OfEnd items in
      next_so home (stmt_spots (Block ss) []) (end_spots items) _ _
      (stmt_so y slots texts (top script) (start_in script home) (place_of script home) (λ s part w. refl) (Block ss) [])
      (end_so items)
  end_so (item.Function f ps ss ∷ items) = end_so items
  end_so (item.Begin ss ∷ items) = end_so items
  end_so (item.Always ss ∷ items) = end_so items
  end_so (item.When p ss ∷ items) = end_so items
  end_so (item.Lone p ∷ items) = end_so items
  end_so (item.Nothing ∷ items) = end_so items

  record_so : (i : ℕ) (items : List Item) → map spot_place (record_spots i items) ≡ starts (items_code texts (top script) i items) out_of_part
  unfolding step_code
  record_so i [] = refl
  record_so i (item.Always ss ∷ items) =
      let home = OfRecord i None ss items in
      next_so home (stmt_spots (Block ss) []) (record_spots i items) _ _
      (stmt_so y slots texts (top script) (start_in script home) (place_of script home) (λ s part w. refl) (Block ss) [])
      (record_so i items)
  record_so i (item.When p ss ∷ items) =
      let home = OfRecord i (Some p) ss items in
      let met = stmt_so y slots texts (top script) (start_in script home) (place_of script home) (λ s part w. refl) (Block ss) [] in
      next_so home (pattern_spots (Some p) (stmt_spots (Block ss) [])) (record_spots (pattern_ranges p + i) items) _ _
      (where_so y slots texts (top script) i p ss (outermost_in script home) (place_of script home) (λ part. refl) (stmt_spots (Block ss) []) met)
      (record_so (pattern_ranges p + i) items)
  record_so i (item.Lone p ∷ items) =
      let home = OfRecord i (Some p) print_record items in
      let met = stmt_so y slots texts (top script) (start_in script home) (place_of script home) (λ s part w. refl) (Block print_record) [] in
      next_so home (pattern_spots (Some p) (stmt_spots (Block print_record) [])) (record_spots (pattern_ranges p + i) items) _ _
      (where_so y slots texts (top script) i p print_record (outermost_in script home) (place_of script home) (λ part. refl)
      (stmt_spots (Block print_record) []) met)
      (record_so (pattern_ranges p + i) items)
  record_so i (item.Function f ps ss ∷ items) = record_so i items
  record_so i (item.Begin ss ∷ items) = record_so i items
  record_so i (item.End ss ∷ items) = record_so i items
  record_so i (item.Nothing ∷ items) = record_so i items

  -- where no records are read there is no action for them
  none_read : (i : ℕ) (items : List Item) → reads_records items ≡ false → record_spots i items ≡ []
  none_read i [] e = refl
  none_read i (item.Function f ps ss ∷ items) e = none_read i items e
  none_read i (item.Begin ss ∷ items) e = none_read i items e
  none_read i (item.Nothing ∷ items) e = none_read i items e
  none_read i (item.End ss ∷ items) e = absurd cc
  none_read i (item.Always ss ∷ items) e = absurd cc
  none_read i (item.When p ss ∷ items) e = absurd cc
  none_read i (item.Lone p ∷ items) e = absurd cc

  records_so : (reads : Bool) → reads_records script.items ≡ reads
      → map spot_place (record_spots zero script.items) ≡ (if reads then starts (items_code texts (top script) zero script.items) out_of_part else [])
  records_so true e = record_so zero script.items
  records_so false e = ap (map spot_place) (none_read zero script.items e)

  main_so : map spot_place (main_spots script.items) ≡ main_starts (final_program script)
  main_so =
      let items = script.items in
      let first = map spot_place (begin_spots items) in
      let second = map spot_place (record_spots zero items) in
      let third = map spot_place (end_spots items) in
      map-append spot_place (begin_spots items) (record_spots zero items ++ end_spots items)
      ∙ ap (λ (xs : List Instructions). first ++ xs) (map-append spot_place (record_spots zero items) (end_spots items))
      ∙ sym (append_assoc first second third)
      ∙ (λ j. (begin_so items j ++ records_so (reads_records items) refl j) ++ end_so items j)

  -- Functions.

  abbrev parameters : ℕ → List Kind
  parameters f = parameters_at (lanes_of script).parameters f

  function_so : (f : ℕ) → map spot_place (function_spots f (function_at script.functions f).body)
      ≡ routine_starts (final_program script) (routine_at (final_program script).routines f)
  unfolding steps_emitted
  function_so f =
      let home = OfFunction f in
      let function = function_at script.functions f in
      let same = ap (λ (r : Routine). r.body) (routine_is texts script (lanes_of script).globals parameters script.functions f) in
      homely home (stmts_spots function.body [])
      ∙ stmts_so (layout_at script home) (slot_in (lanes_of script).globals (parameters f)) texts (scope_in script function) (start_in script home)
      (place_of script home) (λ s part w. refl) function.body []
      ∙ ap (λ (ss : Steps). steps_starts (layout_at script home) ss zero zero zero zero (routine_rest (bases_at script home))) (sym same)

-- The module's functions.

mutual
  renumbered_starts : (bs : List Bool) (k : Instructions) → starts_in (renumbered bs k) ≡ map (renumbered bs) (starts_in k)
  renumbered_starts bs Done = refl
  renumbered_starts bs (Then i k) =
      (λ j. renumbered_start bs i k j ++ renumbered_starts bs k j) ∙ sym (map-append (renumbered bs) (starts_of i k) (starts_in k))

  renumbered_start : (bs : List Bool) (i : Instruction) (k : Instructions)
      → starts_of (renumbered_one bs i) (renumbered bs k) ≡ map (renumbered bs) (starts_of i k)
  renumbered_start bs (Plain p) k = by p
    where
      by : (p : Simple) → starts_of (Plain (renumbered_simple bs p)) (renumbered bs k) ≡ map (renumbered bs) (starts_of (Plain p) k)
      by Nop = refl
      by p = refl
  renumbered_start bs (BrTable ds d) k = refl
  renumbered_start bs (Inside r a) k = renumbered_starts bs a
  renumbered_start bs (Loop r a) k = renumbered_starts bs a
  renumbered_start bs (If r a b) k = (λ j. renumbered_starts bs a j ++ renumbered_starts bs b j) ∙ sym (map-append (renumbered bs) (starts_in a) (starts_in b))

body_from : (bs : List Bool) (n : ℕ) (fs : List Callee) (f : ℕ) (func : FuncForm) → slice_get (functions_from bs n fs) f ≡ Some func
    → (callee : Callee) × (slice_get fs f ≡ Some callee) × (func.body ≡ renumbered bs callee.body)
body_from bs n [] f func e = let no : None ≡ Some func = e in absurd cc
body_from bs n (callee ∷ fs) zero func e = (callee, refl, sym (ap (λ (o : Option FuncForm). body_of o) e))
  where
    body_of : Option FuncForm → Instructions
    body_of (Some found) = found.body
    body_of None = Done
body_from bs n (callee ∷ fs) (suc f) func e = body_from bs (suc n) fs f func e

-- the spots of functions that are numbered from one on
numbered : ℕ → List Function → List (List Spot)
numbered n [] = []
numbered n (f ∷ fs) = function_spots n f.body ∷ numbered (suc n) fs

numbered_so : (arrays : Key → Bool) (n : ℕ) (items : List Item)
    → functions_spots n items ≡ numbered n (with_bodies (functions_by arrays (heads items)) (bodies items))
unfolding numbered
numbered_so arrays n [] = refl
numbered_so arrays n (item.Function f xs ss ∷ items) = ap (λ (rest : List (List Spot)). function_spots n ss ∷ rest) (numbered_so arrays (suc n) items)
numbered_so arrays n (item.Begin ss ∷ items) = numbered_so arrays n items
numbered_so arrays n (item.End ss ∷ items) = numbered_so arrays n items
numbered_so arrays n (item.Always ss ∷ items) = numbered_so arrays n items
numbered_so arrays n (item.When p ss ∷ items) = numbered_so arrays n items
numbered_so arrays n (item.Lone p ∷ items) = numbered_so arrays n items
numbered_so arrays n (item.Nothing ∷ items) = numbered_so arrays n items

module _ (script : Resolved) (gs : List Kind) (main : Callee) (mains : List Spot) where
  abbrev routines : (ℕ → List Kind) → List Function → List Routine
  routines ps fs = routines_with gs ps (map folded_routine (map (routine_code (texts_of_script script) script) fs))

  abbrev callee_of : Routine → Callee
  callee_of r = routine_callee (final_program script) r

  abbrev place : Spot → Instructions
  place spot = place_of script spot.0 spot.1

  -- where the functions from the n-th on have the places of their spots, and `main` too
  callee_so : map place mains ≡ starts_in main.body → (n : ℕ) (ps : ℕ → List Kind) (fs : List Function)
      → ((k m : ℕ) → m ≡ k + n → map place (function_spots m (function_at fs k).body) ≡ starts_in (callee_of (routine_at (routines ps fs) k)).body)
      → (f : ℕ) (callee : Callee) → slice_get (map callee_of (routines ps fs) ++ main ∷ []) f ≡ Some callee
      → map place (unwrap_or (slice_get (numbered n fs) f) mains) ≡ starts_in callee.body
  unfolding numbered
  callee_so last n ps [] h zero callee e = let same : main ≡ callee = cc in last ∙ ap (λ (c : Callee). starts_in c.body) same
  callee_so last n ps [] h (suc f) callee e = let no : None ≡ Some callee = e in absurd cc
  callee_so last n ps (g ∷ fs) h zero callee e =
      let same : callee_of (routine_at (routines ps (g ∷ fs)) zero) ≡ callee = cc in h zero n (omega arith) ∙ ap (λ (c : Callee). starts_in c.body) same
  callee_so last n ps (g ∷ fs) h (suc f) callee e = callee_so last (suc n) (λ i. ps (suc i)) fs (λ k m q. h (suc k) m (omega (arith, q))) f callee e

pub module_so : (items : List Item) (f : ℕ) (func : FuncForm) → slice_get (module_of (final_program (resolved items))).funcs f ≡ Some func
    → starts_in func.body ≡ map (λ spot. module_place (resolved items) spot.0 spot.1) (spots_in items f)
module_so items f func e =
    let script = resolved items in
    let program = final_program script in
    let place = λ (spot : Spot). place_of script spot.0 spot.1 in
    let found = body_from (called_imports program) _ (all_callees program) f func e in
    let last = main_so script ∙ sym (main_has_starts program) in
    let each = λ (k m : ℕ) (q : m ≡ k + zero).
    subst (λ (n : ℕ). map place (function_spots n (function_at script.functions k).body)
    ≡ starts_in (routine_callee program (routine_at program.routines k)).body)
    (omega (arith, q)) (function_so script k ∙ sym (routine_has_starts program (routine_at program.routines k))) in
    let all = callee_so script (lanes_of script).globals (main_callee program) (main_spots items) last zero
    (λ f. parameters_at (lanes_of script).parameters f) script.functions each f found.0 found.1 in
    let spots = ap (λ (fs : List (List Spot)). unwrap_or (slice_get fs f) (main_spots items))
    (numbered_so (is_used_as Array (heads items) (script_marks items)) zero items) in
    ap starts_in found.2 ∙ renumbered_starts (called_imports program) found.0.body
    ∙ ap (map (renumbered (called_imports program))) (sym all ∙ ap (map place) (sym spots))
    ∙ map-map (renumbered (called_imports program)) place (spots_in items f)
