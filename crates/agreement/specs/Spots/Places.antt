-- The place that each spot of a script has in the script's module: the code that the module has for the step that is begun there, with what comes
-- after it in its block. The steps are those of the script's translation, with constants computed and names in their lanes. `module_of` has this code
-- where it has the step (lower_model's `step_emitted`), so this page goes from the outside to the inside of a statement as it does.
--
-- How much of it you have to believe: no position, and nothing of what comes after a step. By the theorem `spots_are_in_order` the place of the n-th spot of
-- a function is the n-th `nop` of its code, and by the field `passes` a run has this code where it passes the spot. A wrong place would refute the first, and
-- the second once a run passes the spot. They do not say that a place has its own statement's code: read that in `part_place` and `range_place`. The field
-- `quiet` also names `final_program`, `lanes_of` and `scope_at`.
use Rattle.std.specs.Prelude.{ℕ, zero, suc, ◌+◌, true, false, if◌then◌else◌, List, [], ◌∷◌, Option, Some, None, is_some}
use Rattle.wasm_types.specs.Syntax.{Instructions, Done}
use Rattle.wasm_types.specs.declared.instr.Simple.TheVariants.{Br}
use Rattle.sem_primitives.specs.declared.table.Primitive.TheVariants as row
use Rattle.awk_grammar.specs.Trees.{One, Between as Range, Pattern, Stmt, Tree}
use Rattle.awk_grammar.specs.Trees as stmt
use Rattle.folding.specs.Folding.{same, reduced, fold}
use Rattle.sem_scripts.specs.Items.{top, pattern_ranges}
use Rattle.mid_program.specs.Mid.{Code, Do, End, Eval, IsOpen, Mark, Next, Program, Slot, Step, Block, If, Loop, Steps, NoStep, Then, parameters_at}
use Rattle.mid_program.specs.MidMeaning.{routine_at}
use Rattle.sem_scripts.specs.Names.{Resolved, Scope, function_at}
use Rattle.sem_scripts.specs.Statements.{scope_in}
use Rattle.mid_program.specs.Texts.{texts_of_script}
use Rattle.mid_program.specs.Translation.{host, code_of, test_code, maybe_step, step_code, steps_code, items_code, begin_code, end_code, program_of}
use Rattle.mid_program.specs.Rewriting.{code_in, step_in, steps_in}
use Rattle.value_kinds.specs.Applied.{apply, slot_in}
use Rattle.value_kinds.specs.Lanes.{Lanes, infer}
use Rattle.lower_model.specs.Emission.{Layout}
use Rattle.lower_model.specs.Functions.{layout_of, main_bases, routine_bases}
use Rattle.lower_model.specs.Noted.{begin_rest, out_of_part, routine_rest, test_place}
use Rattle.lower_model.specs.Places.{Bases}
use Rattle.lower_model.specs.Quick.{is_nothing, pair_in, step_jumps}
use Rattle.lower_model.specs.Small.{emit as instruction}
use Rattle.lower_model.specs.Statements.{step_emitted, steps_emitted}
use Rattle.agreement.specs.Spots.Spots.{Frame, Before, Within, AfterElse, Home, OfBegin, OfEnd, OfRecord, OfFunction, Part, First, Looping, Between, Testing, Unless, GivesUp, Leaves, PatternPart, Asked, Unmet, Opening, Already, FirstTest, Opens, StaysClosed, Inside, Entered, LastTest, Closes, StaysOpen, StatementPath, Of, OfPattern}

-- Where code stands in a function: so many iterators are in use, and so many labels are between it and the function's exit, the place where `break`
-- goes, and the one where `continue` goes; then what comes after it in its block.
pub record Position : Type 0 where
  pub iterators : ℕ
  pub out : ℕ
  pub breaking : ℕ
  pub continuing : ℕ
  pub after : Instructions

abbrev pub outermost : Instructions → Position
outermost k = record { iterators = zero; out = zero; breaking = zero; continuing = zero; after = k }

-- one label further in, with nothing after it
abbrev pub aside : Position → Position
aside p = record { iterators = p.iterators; out = suc p.out; breaking = suc p.breaking; continuing = suc p.continuing; after = Done }

-- where a test holds: of one that compares numbers quickly two labels further in
abbrev pub met : Code → Position → Position
met e p =
    if is_some (pair_in e)
    then record {
      iterators = p.iterators;
      out = suc (suc p.out);
      breaking = suc (suc p.breaking);
      continuing = suc
          (suc p.continuing);
      after = instruction (Br 1) Done;
    }
    else aside p

-- between the rounds of a loop, before the code that goes back
abbrev pub at_end : Instructions → Position → Position
at_end back p = record { iterators = p.iterators; out = suc (suc p.out); breaking = 1; continuing = zero; after = back }

-- a round in a block of its own, which `continue` leaves
abbrev pub in_block : Position → Position
in_block p = record { iterators = p.iterators; out = suc (suc (suc p.out)); breaking = 2; continuing = zero; after = Done }

-- A step of the translation as the module has it: constants are computed, and names are in their lanes.

abbrev pub final_code : (Slot → Slot) → Code → Code
final_code slots e = code_in slots Do (code_in same reduced e)

abbrev pub final : (Slot → Slot) → Step → Step
final slots s = step_in slots Do (step_in same reduced s)

abbrev pub final_steps : (Slot → Slot) → Steps → Steps
final_steps slots ss = steps_in slots Do (steps_in same reduced ss)

module _ (y : Layout) (slots : Slot → Slot) (texts : List (List ℕ)) (scope : Scope) where
  abbrev pub test_in : Tree → Code
  test_in t = final_code slots (code_of texts scope t)

  abbrev pub step_of : Stmt → Step
  step_of s = final slots (step_code texts scope s)

  -- the code of a step, or of steps, and of what comes after

  abbrev pub step_at : Step → Position → Instructions
  step_at s p = step_emitted y s p.iterators p.out p.breaking p.continuing p.after

  abbrev pub steps_at : Steps → Position → Instructions
  steps_at ss p = steps_emitted y ss p.iterators p.out p.breaking p.continuing p.after

  abbrev pub nothing_at : Position → Instructions
  nothing_at p = step_at (Block NoStep) p

  -- Statements.

  abbrev pub back : Instructions
  back = instruction (Br zero) Done

  -- a round of a loop that goes on with a step, if it is one: where the body jumps, it is in a block of its own
  abbrev pub round : Step → Step → Position → Position
  round body between p =
      if step_jumps body then in_block p else at_end (if is_nothing between then back else step_at between (at_end back p)) p

  -- a round of a loop over keys, which has one more iterator
  abbrev pub key_round : Position → Position
  key_round p = record (in_block p) { iterators = suc p.iterators }

  abbrev pub test_at : Tree → Position → Instructions
  test_at c p = test_place y (test_in c) (suc (suc p.out))

  -- the loop of a `for`
  abbrev pub loop_of : Option Tree → Option stmt.Plain → Stmt → Step
  loop_of c q s = final slots (Loop true (test_code texts scope c) (step_code texts scope s) (maybe_step texts scope q))

  -- of a `nextfile`, what gives up the rest of the main input
  abbrev pub giving_up : Step
  giving_up = final slots (Eval (host row.NextFile End))

  -- where a statement stands that stands in this
  abbrev pub in_frame : Frame → Position → Position
  in_frame (Before ss) p = record p { after = steps_at (final_steps slots (steps_code texts scope ss)) p }
  in_frame (Within (stmt.If c s)) p = met (test_in c) p
  in_frame (Within (stmt.IfElse c s t)) p = met (test_in c) p
  in_frame (Within (stmt.While c s)) p = round (step_of s) (Block NoStep) p
  in_frame (Within (stmt.Do s c)) p = in_block p
  in_frame (Within (stmt.For i c q s)) p = round (step_of s) (final slots (maybe_step texts scope q)) p
  in_frame (Within (stmt.ForIn k a s)) p = key_round p
  in_frame (Within s) p = p
  in_frame (AfterElse s) p = aside p

  -- from the outermost position of the action or the function
  abbrev pub position : Position → List Frame → Position
  position start [] = start
  position start (frame ∷ w) = in_frame frame (position start w)

  -- the place of a part of a statement, by the statement's position
  abbrev pub part_place : Stmt → Part → Position → Instructions
  part_place (stmt.If c s) Unless p = nothing_at (aside p)
  part_place (stmt.Do s c) Between p = nothing_at (at_end (test_at c p) p)
  part_place (stmt.Do s c) Testing p = test_at c p
  part_place (stmt.For i c q s) First p = step_at (final slots (maybe_step texts scope i)) (record p { after = step_at (loop_of c q s) p })
  part_place (stmt.For i c q s) Looping p = step_at (loop_of c q s) p
  part_place (stmt.For i c q s) Between p = step_at (final slots (maybe_step texts scope q)) (at_end back p)
  part_place (stmt.Jumping stmt.NextFile) GivesUp p = step_at giving_up (record p { after = step_at Next p })
  part_place (stmt.Jumping stmt.NextFile) Leaves p = step_at Next p
  part_place s part p = step_at (step_of s) p

  -- Actions.

  -- where the action of a pattern stands
  abbrev pub after_pattern : Option Pattern → Position → Position
  after_pattern None p = p
  after_pattern (Some (One t)) p = met (test_in t) p
  after_pattern (Some (Range t u)) p = aside p

  -- what opens the i-th range, and what closes it

  abbrev pub if_so : Code → Step → Step
  if_so e s = If e s (Block NoStep)

  abbrev pub opening_step : ℕ → Tree → Step
  opening_step i t = If (IsOpen i) (Block NoStep) (if_so (test_in t) (Mark i true))

  abbrev pub closing_step : ℕ → Tree → Step
  closing_step i u = if_so (test_in u) (Mark i false)

  abbrev pub inside_step : ℕ → Tree → Step → Step
  inside_step i u action = if_so (IsOpen i) (Block (Then (closing_step i u) (Then action NoStep)))

  -- a range asks whether it is open already, and then whether it is open now
  abbrev pub range_place : ℕ → Tree → Tree → Step → PatternPart → Position → Instructions
  range_place i t u action Asked p = step_at (Block (Then (opening_step i t) (Then (inside_step i u action) NoStep))) p
  range_place i t u action Unmet p = nothing_at (aside p)
  range_place i t u action Opening p = step_at (opening_step i t) (record p { after = step_at (inside_step i u action) p })
  range_place i t u action Already p = nothing_at (aside p)
  range_place i t u action FirstTest p = step_at (if_so (test_in t) (Mark i true)) (aside p)
  range_place i t u action Opens p = step_at (Mark i true) (met (test_in t) (aside p))
  range_place i t u action StaysClosed p = nothing_at (aside (aside p))
  range_place i t u action Inside p = step_at (inside_step i u action) p
  range_place i t u action Entered p = step_at (Block (Then (closing_step i u) (Then action NoStep))) (aside p)
  range_place i t u action LastTest p = step_at (closing_step i u) (record (aside p) { after = step_at action (aside p) })
  range_place i t u action Closes p = step_at (Mark i false) (met (test_in u) (record (aside p) { after = step_at action (aside p) }))
  range_place i t u action StaysOpen p = nothing_at (aside (aside p))

  abbrev pub pattern_place : ℕ → Option Pattern → Step → PatternPart → Position → Instructions
  pattern_place i None action part p = step_at action p
  pattern_place i (Some (One t)) action Unmet p = nothing_at (aside p)
  pattern_place i (Some (One t)) action part p = step_at (if_so (test_in t) action) p
  pattern_place i (Some (Range t u)) action part p = range_place i t u action part p

-- Actions and functions of a script.

abbrev pub lanes_of : Resolved → Lanes
lanes_of script = infer (fold (program_of script))

-- the script's code, whose module is the script's
abbrev pub final_program : Resolved → Program
final_program script = apply (lanes_of script) (fold (program_of script))

abbrev pub bases_at : Resolved → Home → Bases
bases_at script (OfFunction f) = routine_bases (routine_at (final_program script).routines f)
bases_at script home = main_bases (final_program script)

abbrev pub slots_at : Lanes → Home → Slot → Slot
slots_at l (OfFunction f) = slot_in l.globals (parameters_at l.parameters f)
slots_at l home = slot_in l.globals []

abbrev pub scope_at : Resolved → Home → Scope
scope_at script (OfFunction f) = scope_in script (function_at script.functions f)
scope_at script home = top script

abbrev pub layout_at : Resolved → Home → Layout
layout_at script home = layout_of (final_program script) (bases_at script home)

-- the steps that come after an action in its part of the run, and the code after those

abbrev pub later : Resolved → Home → Steps
later script (OfBegin items) = begin_code (texts_of_script script) (top script) items
later script (OfEnd items) = end_code (texts_of_script script) (top script) items
later script (OfRecord i None ss items) = items_code (texts_of_script script) (top script) i items
later script (OfRecord i (Some p) ss items) = items_code (texts_of_script script) (top script) (pattern_ranges p + i) items
later script (OfFunction f) = NoStep

abbrev pub code_after : Resolved → Home → Instructions
code_after script (OfBegin items) = begin_rest (final_program script) (main_bases (final_program script))
code_after script (OfFunction f) = routine_rest (bases_at script (OfFunction f))
code_after script home = out_of_part

abbrev pub outermost_in : Resolved → Home → Position
outermost_in script home = outermost (steps_emitted (layout_at script home)
    (final_steps (slots_at (lanes_of script) home) (later script home)) zero zero zero zero (code_after script home))

abbrev pub pattern_of : Home → Option Pattern
pattern_of (OfRecord i p ss items) = p
pattern_of home = None

-- where an action stands, or the statements of a function
abbrev pub start_in : Resolved → Home → Position
start_in script home = after_pattern (layout_at script home) (slots_at (lanes_of script) home) (texts_of_script script) (scope_at script home)
    (pattern_of home) (outermost_in script home)

-- THE PLACE OF A SPOT
abbrev pub place_of : Resolved → Home → StatementPath → Instructions
place_of script home (Of s part w) =
    let y = layout_at script home in
    let slots = slots_at (lanes_of script) home in
    part_place y slots (texts_of_script script) (scope_at script home) s part
    (position y slots (texts_of_script script) (scope_at script home) (start_in script home) w)
place_of script (OfRecord i p ss items) (OfPattern part) =
    let home = OfRecord i p ss items in
    let slots = slots_at (lanes_of script) home in
    pattern_place (layout_at script home) slots (texts_of_script script) (top script) i p
    (final slots (Block (steps_code (texts_of_script script) (top script) ss))) part (outermost_in script home)
place_of script home (OfPattern part) = Done
