-- The code of a script notes the places of the spots that the script passes.
use Rattle.std.proofs.Common.{◌≡◌, ℕ, zero, suc, ◌+◌, List, [], ◌∷◌, Some, None, map, refl, sym, ap, ◌∙◌}
use Rattle.wasm_types.specs.Syntax.{Instructions}
use Rattle.awk_grammar.specs.Trees as item
use Rattle.awk_grammar.specs.Trees.{Item, Stmts}
use Rattle.folding.proofs.Folds as folded
use Rattle.folding.specs.Folding.{fold, folded_routine}
use Rattle.sem_scripts.specs.Items.{print_record, pattern_ranges, reads_records, top}
use Rattle.sem_scripts.specs.Meaning.{Calls}
use Rattle.mid_program.specs.Mid.{Kind, Routine, Slot, Steps, parameters_at}
use Rattle.mid_program.specs.MidMeaning.{global_name, routine_at, routine_name}
use Rattle.sem_scripts.specs.Names.{Function, Resolved, Scope, function_at}
use Rattle.sem_scripts.specs.ScriptRun.{Setting, as_name, run_with}
use Rattle.sem_scripts.specs.ScriptState.{Execution, ◌>>=◌, ◌>>◌, nothing}
use Rattle.mid_program.specs.Sorted.{calls_of}
use Rattle.sem_scripts.specs.Statements.{Flow, after, entered, scope_in}
use Rattle.mid_program.specs.Texts.{texts_in, all_texts, pattern_texts, stmt_texts, stmts_texts, item_texts, items_texts, functions_texts, texts_of_script}
use Rattle.mid_program.specs.Translation.{begin_code, end_code, items_code, program_of, routine_code, steps_code}
use Rattle.mid_meaning.proofs.Scripts.{functions_again, globals_again, heads_of_program}
use Rattle.mid_meaning.proofs.Stands.{AllStand, all_stand, first_part, second_part}
use Rattle.mid_meaning.proofs.Trees.{Heads}
use Rattle.value_kinds.specs.Applied.{is_unboxed, routine_with, routines_with, slot_in}
use Rattle.value_kinds.proofs.Applies as applied
use Rattle.lower_model.specs.Emission.{Layout}
use Rattle.lower_model.specs.Functions.{layout_of, main_bases}
use Rattle.lower_model.specs.Machine.{Notes}
use Rattle.lower_model.specs.Noted.{begin_rest, noted_called, noted_parts, noted_run_in, out_of_part, routine_rest, steps_noted}
use Rattle.lower_model.specs.Statements.{steps_emitted}
use Rattle.agreement.specs.Spots.Marked.{Marks, all_marked, marked_called, items_marked, begun_marked, ended_marked, marked_parts, marked_run}
use Rattle.agreement.specs.Spots.Places.{bases_at, final_program, final_steps, lanes_of, layout_at, outermost_in, place_of, start_in}
use Rattle.agreement.specs.Spots.Spots.{OfBegin, OfEnd, OfFunction, OfRecord}
use Rattle.agreement.proofs.SpotsLemmas.Final.{DoesSo, does_so}
use Rattle.agreement.proofs.SpotsLemmas.Items.{action_so, where_so}
use Rattle.agreement.proofs.SpotsLemmas.Statements.{steps_so}

print_stands : (texts : List (List ℕ)) → AllStand texts (stmts_texts print_record)
unfolding stmt_texts stmts_texts texts_in all_texts
print_stands texts = tt

-- the code of a function, by its number
pub routine_is : (texts : List (List ℕ)) (script : Resolved) (gs : List Kind) (ps : ℕ → List Kind) (fs : List Function) (f : ℕ) →
    routine_at (routines_with gs ps (map folded_routine (map (routine_code texts script) fs))) f ≡ routine_with gs (ps f) (folded_routine (routine_code texts script (function_at fs f)))
unfolding steps_code
routine_is texts script gs ps [] f = refl
routine_is texts script gs ps (g ∷ fs) zero = refl
routine_is texts script gs ps (g ∷ fs) (suc f) = routine_is texts script gs (λ i. ps (suc i)) fs f

module _ (notes : Notes) (script : Resolved) where
  abbrev texts : List (List ℕ)
  texts = texts_of_script script

  abbrev marks : Marks
  marks home spot = notes (place_of script home spot)

  abbrev kinds : List (List Kind)
  kinds = calls_of (final_program script)

  abbrev parameters : ℕ → List Kind
  parameters f = parameters_at (lanes_of script).parameters f

  -- in an action, and in a function
  does_so_in : (slots : List Kind) (n : ℕ) (calls : Calls) (scope : Scope) → Heads (calls_of (program_of script)) scope → DoesSo (slot_in (lanes_of script).globals slots) texts kinds n calls scope
  does_so_in lanes n calls scope heads =
      does_so (slot_in (lanes_of script).globals lanes) (applied.same_places (lanes_of script).globals lanes) texts (calls_of (program_of script)) (calls_of (fold (program_of script))) kinds
      (folded.heads_alike (program_of script)) (applied.heads_alike (lanes_of script).globals parameters (fold (program_of script)).routines) n calls scope heads

  -- Calls.

  stands : (fs : List Function) → AllStand texts (functions_texts fs) → (f : ℕ) → AllStand texts (stmts_texts (function_at fs f).body)
  unfolding stmts_texts
  stands [] h f = tt
  stands (g ∷ fs) h zero = first_part texts (stmts_texts g.body) (functions_texts fs) h
  stands (g ∷ fs) h (suc f) = stands fs (second_part texts (stmts_texts g.body) (functions_texts fs) h) f

  abbrev body_of : ℕ → Stmts
  body_of f = (function_at script.functions f).body

  abbrev scope_of : ℕ → Scope
  scope_of f = scope_in script (function_at script.functions f)

  abbrev noted_body : ℕ → ℕ → Calls → Steps → Execution Flow
  noted_body n f calls ss = steps_noted notes (layout_at script (OfFunction f)) texts kinds n calls ss zero zero zero zero (routine_rest (bases_at script (OfFunction f)))

  body_is : (f : ℕ) → (routine_at (final_program script).routines f).body ≡ final_steps (slot_in (lanes_of script).globals (parameters f)) (steps_code texts (scope_of f) (body_of f))
  body_is f = ap (λ (r : Routine). r.body) (routine_is texts script (lanes_of script).globals parameters script.functions f)

  body_so : AllStand texts (functions_texts script.functions) → (n f : ℕ) (calls : Calls) → noted_body n f calls (routine_at (final_program script).routines f).body ≡ all_marked (marks (OfFunction f)) (scope_of f) n calls (body_of f) []
  unfolding steps_emitted
  body_so stand n f calls =
      ap (noted_body n f calls) (body_is f)
      ∙ steps_so notes (layout_at script (OfFunction f)) (slot_in (lanes_of script).globals (parameters f)) texts kinds n calls (scope_of f) (does_so_in (parameters f) n calls (scope_of f) (heads_of_program texts script))
      (start_in script (OfFunction f)) (marks (OfFunction f)) (λ s part w. refl) (body_of f) (stands script.functions stand f) []

  called_so : AllStand texts (functions_texts script.functions) → (n : ℕ) → noted_called notes (final_program script) n ≡ marked_called marks script n
  unfolding noted_called marked_called
  called_so stand zero = refl
  called_so stand (suc n) = λ j f locals. entered locals ((body_so stand n f (noted_called notes (final_program script) n) ∙ ap (λ (calls : Calls). all_marked (marks (OfFunction f)) (scope_of f) n calls (body_of f) []) (called_so stand n)) j)

  -- Items.

  abbrev y : Layout
  y = layout_of (final_program script) (main_bases (final_program script))

  abbrev slots : Slot → Slot
  slots = slot_in (lanes_of script).globals []

  module _ (n : ℕ) (calls : Calls) where
    abbrev so : DoesSo slots texts kinds n calls (top script)
    so = does_so_in [] n calls (top script) (heads_of_program texts script)

    abbrev all_noted : Steps → Instructions → Execution Flow
    all_noted ss k = steps_noted notes y texts kinds n calls (final_steps slots ss) zero zero zero zero k

    items_so : (i : ℕ) (is : List Item) → AllStand texts (items_texts is) → all_noted (items_code texts (top script) i is) out_of_part ≡ items_marked marks (top script) n calls i is
    unfolding steps_noted items_marked
    items_so i [] f = refl
    items_so i (item.Function g ps ss ∷ is) f = items_so i is (second_part texts (item_texts (item.Function g ps ss)) (items_texts is) f)
    items_so i (item.Begin ss ∷ is) f = items_so i is (second_part texts (item_texts (item.Begin ss)) (items_texts is) f)
    items_so i (item.End ss ∷ is) f = items_so i is (second_part texts (item_texts (item.End ss)) (items_texts is) f)
    items_so i (item.Nothing ∷ is) f = items_so i is (second_part texts (item_texts item.Nothing) (items_texts is) f)
    items_so i (item.Always ss ∷ is) f =
        let home = OfRecord i None ss is in
        let done = action_so notes y slots texts kinds n calls (top script) so marks home i ss (first_part texts (item_texts (item.Always ss)) (items_texts is) f) (outermost_in script home) None (λ s part w. refl) in
        λ j. done j >>= λ flow. after flow (items_so i is (second_part texts (item_texts (item.Always ss)) (items_texts is) f) j)
    items_so i (item.When p ss ∷ is) f =
        let home = OfRecord i (Some p) ss is in
        let g = first_part texts (item_texts (item.When p ss)) (items_texts is) f in
        let done = where_so notes y slots texts kinds n calls (top script) so marks home i ss (second_part texts (pattern_texts p) (stmts_texts ss) g) (outermost_in script home) p (λ s part w. refl) (λ part. refl) (first_part texts (pattern_texts p) (stmts_texts ss) g) in
        λ j. done j >>= λ flow. after flow (items_so (pattern_ranges p + i) is (second_part texts (item_texts (item.When p ss)) (items_texts is) f) j)
    items_so i (item.Lone p ∷ is) f =
        let home = OfRecord i (Some p) print_record is in
        let done = where_so notes y slots texts kinds n calls (top script) so marks home i print_record (print_stands texts) (outermost_in script home) p (λ s part w. refl) (λ part. refl) (first_part texts (item_texts (item.Lone p)) (items_texts is) f) in
        λ j. done j >>= λ flow. after flow (items_so (pattern_ranges p + i) is (second_part texts (item_texts (item.Lone p)) (items_texts is) f) j)

    begin_so : (is : List Item) → AllStand texts (items_texts is) → all_noted (begin_code texts (top script) is) (begin_rest (final_program script) (main_bases (final_program script))) ≡ begun_marked marks (top script) n calls is
    unfolding steps_noted begun_marked
    begin_so [] f = refl
    begin_so (item.Begin ss ∷ is) f =
        let home = OfBegin is in
        let done = action_so notes y slots texts kinds n calls (top script) so marks home zero ss (first_part texts (item_texts (item.Begin ss)) (items_texts is) f) (outermost_in script home) None (λ s part w. refl) in
        λ j. done j >>= λ flow. after flow (begin_so is (second_part texts (item_texts (item.Begin ss)) (items_texts is) f) j)
    begin_so (item.Function g ps ss ∷ is) f = begin_so is (second_part texts (item_texts (item.Function g ps ss)) (items_texts is) f)
    begin_so (item.End ss ∷ is) f = begin_so is (second_part texts (item_texts (item.End ss)) (items_texts is) f)
    begin_so (item.Nothing ∷ is) f = begin_so is (second_part texts (item_texts item.Nothing) (items_texts is) f)
    begin_so (item.Always ss ∷ is) f = begin_so is (second_part texts (item_texts (item.Always ss)) (items_texts is) f)
    begin_so (item.When p ss ∷ is) f = begin_so is (second_part texts (item_texts (item.When p ss)) (items_texts is) f)
    begin_so (item.Lone p ∷ is) f = begin_so is (second_part texts (item_texts (item.Lone p)) (items_texts is) f)

    end_so : (is : List Item) → AllStand texts (items_texts is) → all_noted (end_code texts (top script) is) out_of_part ≡ ended_marked marks (top script) n calls is
    unfolding steps_noted ended_marked
    end_so [] f = refl
    end_so (item.End ss ∷ is) f =
        let home = OfEnd is in
        let done = action_so notes y slots texts kinds n calls (top script) so marks home zero ss (first_part texts (item_texts (item.End ss)) (items_texts is) f) (outermost_in script home) None (λ s part w. refl) in
        λ j. done j >>= λ flow. after flow (end_so is (second_part texts (item_texts (item.End ss)) (items_texts is) f) j)
    end_so (item.Function g ps ss ∷ is) f = end_so is (second_part texts (item_texts (item.Function g ps ss)) (items_texts is) f)
    end_so (item.Begin ss ∷ is) f = end_so is (second_part texts (item_texts (item.Begin ss)) (items_texts is) f)
    end_so (item.Nothing ∷ is) f = end_so is (second_part texts (item_texts item.Nothing) (items_texts is) f)
    end_so (item.Always ss ∷ is) f = end_so is (second_part texts (item_texts (item.Always ss)) (items_texts is) f)
    end_so (item.When p ss ∷ is) f = end_so is (second_part texts (item_texts (item.When p ss)) (items_texts is) f)
    end_so (item.Lone p ∷ is) f = end_so is (second_part texts (item_texts (item.Lone p)) (items_texts is) f)

  -- Whole scripts.

  globals_so : map global_name (final_program script).globals ≡ script.globals
  globals_so = sym (applied.names_kept (is_unboxed (lanes_of script).globals) (is_unboxed (lanes_of script).numbers) (fold (program_of script)).globals) ∙ globals_again script.globals

  functions_so : map routine_name (final_program script).routines ≡ map as_name script.functions
  functions_so =
      sym (applied.functions_kept (lanes_of script).globals parameters (fold (program_of script)).routines)
      ∙ sym (folded.names_kept (program_of script).routines)
      ∙ functions_again texts script script.functions

  parts_so : (n : ℕ) → noted_parts notes n (final_program script) ≡ marked_parts marks n script
  parts_so n =
      let items = first_part texts (items_texts script.items) (functions_texts script.functions) (all_stand script) in
      let functions = second_part texts (items_texts script.items) (functions_texts script.functions) (all_stand script) in
      let calls = called_so functions n in
      λ j. record {
        globals = globals_so j;
        functions = functions_so j;
        begin = (begin_so n (noted_called notes (final_program script) n) script.items items ∙ ap (λ (c : Calls). begun_marked marks (top script) n c script.items) calls) j >> nothing;
        reads = reads_records script.items;
        items = (items_so n (noted_called notes (final_program script) n) zero script.items items ∙ ap (λ (c : Calls). items_marked marks (top script) n c zero script.items) calls) j >> nothing;
        end = (end_so n (noted_called notes (final_program script) n) script.items items ∙ ap (λ (c : Calls). ended_marked marks (top script) n c script.items) calls) j >> nothing;
      }

  pub run_so : (s : Setting) (turns : ℕ) → noted_run_in notes (final_program script) s turns ≡ marked_run marks script s turns
  run_so s turns = ap (run_with s turns) (parts_so turns)
