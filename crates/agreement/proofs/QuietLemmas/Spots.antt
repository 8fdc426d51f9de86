-- The place of a statement `name = Expr` of a script has the code of an assignment, and then that of what comes after it in its list.
use Rattle.std.proofs.Common.{◌≡◌, ◌⊎◌, inl, inr, ℕ, List, ◌∷◌, length, refl, sym, ap, subst, ◌∙◌}
use Rattle.awk_grammar.specs.Trees as stmt
use Rattle.awk_grammar.specs.Trees.{And, Stmt, Stmts, Tree}
use Rattle.wasm_types.specs.Syntax.{Instructions}
use Rattle.wasm_model.specs.Machines.{Conf, ProgramForm}
use Rattle.host_step.specs.HostState.{HostState}
use Rattle.mid_program.specs.Mid.{Do, Kind, Slot, Step, Steps, Then}
use Rattle.mid_program.specs.Rewriting.{step_in}
use Rattle.mid_program.specs.Texts.{texts_of_script}
use Rattle.mid_program.specs.Translation.{plain_step, step_code, steps_code}
use Rattle.sem_scripts.specs.Names.{Resolved, Scope, Variable, variable_of}
use Rattle.folding.specs.Folding.{reduced, same}
use Rattle.value_kinds.specs.Applied.{slot_in}
use Rattle.lower_model.specs.Emission.{Layout}
use Rattle.lower_model.specs.Modules.{called_imports, renumbered}
use Rattle.lower_model.specs.Statements.{steps_emitted}
use Rattle.agreement.specs.Places.NoLeaks.{AtStatement}
use Rattle.agreement.specs.Quiet.Laned.{AtNumeric, IsLaned, IsNext}
use Rattle.agreement.specs.Quiet.Quiet.{HostCallFree}
use Rattle.agreement.specs.Quiet.Spots.{AtAssignment, AtFollowing, assigns, kinds_at, lanes_at, set}
use Rattle.agreement.specs.Quiet.Statements.{IsNumeric, IsSo, assignment}
use Rattle.agreement.specs.Quiet.Sums.{AtFault, code_in}
use Rattle.agreement.specs.Spots.Places.{Position, bases_at, final, final_program, final_steps, in_frame, lanes_of, layout_at, part_place, position, scope_at, slots_at, start_in, step_at, step_of}
use Rattle.agreement.specs.Spots.Probed.{module_place}
use Rattle.agreement.specs.Spots.Spots.{Before, Frame, Home, Of, OfBegin, OfEnd, OfFunction, OfRecord, Whole}

-- the place of a whole statement is the code of its step
whole_place : (y : Layout) (slots : Slot → Slot) (texts : List (List ℕ)) (scope : Scope) (s : Stmt) (p : Position) → part_place y slots texts scope s Whole p ≡ step_at y slots texts scope (step_of y slots texts scope s) p
whole_place y slots texts scope (stmt.Block ss) p = refl
whole_place y slots texts scope stmt.Empty p = refl
whole_place y slots texts scope (stmt.Simple q) p = refl
whole_place y slots texts scope (stmt.If c s) p = refl
whole_place y slots texts scope (stmt.IfElse c s t) p = refl
whole_place y slots texts scope (stmt.While c s) p = refl
whole_place y slots texts scope (stmt.Do s c) p = refl
whole_place y slots texts scope (stmt.For i c q s) p = refl
whole_place y slots texts scope (stmt.ForIn k a s) p = refl
whole_place y slots texts scope (stmt.Jumping stmt.Break) p = refl
whole_place y slots texts scope (stmt.Jumping stmt.Continue) p = refl
whole_place y slots texts scope (stmt.Jumping stmt.Next) p = refl
whole_place y slots texts scope (stmt.Jumping stmt.NextFile) p = refl
whole_place y slots texts scope (stmt.Leave l t) p = refl

slots_same : (script : Resolved) (home : Home) → slots_at (lanes_of script) home ≡ slot_in (lanes_of script).globals (lanes_at script home)
slots_same script (OfBegin items) = refl
slots_same script (OfEnd items) = refl
slots_same script (OfRecord i p ss items) = refl
slots_same script (OfFunction f) = refl

pub parameters_same : (script : Resolved) (home : Home) → (bases_at script home).parameters ≡ length (kinds_at script home)
parameters_same script (OfBegin items) = refl
parameters_same script (OfEnd items) = refl
parameters_same script (OfRecord i p ss items) = refl
parameters_same script (OfFunction f) = refl

module _ (script : Resolved) (home : Home) (around : List Frame) where
  abbrev slots : Slot → Slot
  slots = slots_at (lanes_of script) home

  abbrev texts : List (List ℕ)
  texts = texts_of_script script

  abbrev scope : Scope
  scope = scope_at script home

  -- where the list stands
  abbrev at : Position
  at = position (layout_at script home) slots texts scope (start_in script home) around

  abbrev step : Stmt → Step
  step s = final slots (step_code texts scope s)

  abbrev rest : Stmts → Steps
  rest ss = final_steps slots (steps_code texts scope ss)

  abbrev coded : Steps → Instructions
  coded ss = code_in (final_program script) (bases_at script home) ss at.iterators at.out at.breaking at.continuing at.after

  -- a statement of a list, with those after it
  listed : (s : Stmt) (ss : Stmts) → module_place script home (Of s Whole (Before ss ∷ around)) ≡ coded (Then (step s) (rest ss))
  unfolding steps_emitted
  listed s ss =
      let y = layout_at script home in ap (renumbered (called_imports (final_program script))) (whole_place y slots texts scope s (in_frame y slots texts scope (Before ss) at))

  pub assigned : (x : List ℕ) (t : Tree) (next : Stmt) (further : Stmts) → module_place script home (Of (assigns x t) Whole (Before (And next further) ∷ around))
      ≡ coded (Then (assignment texts scope (lanes_of script).globals (lanes_at script home) x t) (Then (step next) (rest further)))
  unfolding step_code
  assigned x t next further =
      listed (assigns x t) (And next further)
      ∙ ap (λ (f : Slot → Slot). coded (Then (step_in f Do (step_in same reduced (plain_step texts scope (set x t)))) (Then (step next) (rest further)))) (slots_same script home)

module _ (script : Resolved) (c : Conf) (s : HostState) (here : AtStatement (final_program script) c s) (Assigned : ℕ → Type 0) where
  -- a statement of a script on numbers is one
  abbrev pub at_numeric : AtAssignment script c s here Assigned → AtNumeric (final_program script) c s here Assigned
  at_numeric a =
      let Is : List Kind → Variable → Type 0 = λ kinds. IsSo (IsLaned (final_program script) kinds Assigned) (lanes_of script).globals (lanes_at script a.home) in
      let start = at script a.home a.around in
      record {
        bases = bases_at script a.home;
        parameters = parameters_same script a.home ∙ ap length (sym a.own);
        texts = texts_of_script script;
        scope = scope_at script a.home;
        globals_lanes = (lanes_of script).globals;
        parameters_lanes = lanes_at script a.home;
        target = a.target;
        expression = a.expression;
        next = step script a.home a.around a.next;
        further = rest script a.home a.around a.further;
        iterators = start.iterators;
        out = start.out;
        breaking = start.breaking;
        continuing = start.continuing;
        after = start.after;
        code = a.at_work ∙ assigned script a.home a.around a.target a.expression a.next a.further;
        target_is = subst (λ kinds. Is kinds (variable_of (scope_at script a.home) a.target)) (sym a.own) a.target_is;
        numeric = subst (λ kinds. IsNumeric (Is kinds) (scope_at script a.home) a.expression) (sym a.own) a.numeric;
      }

  following : (a : AtAssignment script c s here Assigned) (there : Conf)
      → IsNext (final_program script) c (bases_at script a.home) (Then (step script a.home a.around a.next) (rest script a.home a.around a.further)) (at script a.home a.around).iterators (at script a.home a.around).out (at script a.home a.around).breaking
      (at script a.home a.around).continuing (at script a.home a.around).after there
      → AtFollowing script a.home a.around a.next a.further c there
  following a there n = record { at_work = n.code ∙ sym (listed script a.home a.around a.next a.further); operands = n.operands; labels = n.labels; callers = n.callers }

  -- so a run that goes to the next step goes to the next statement
  pub goes_on : (m : ProgramForm) (a : AtAssignment script c s here Assigned)
      → HostCallFree m c (λ there. IsNext (final_program script) c (at_numeric a).bases (Then (at_numeric a).next (at_numeric a).further) (at_numeric a).iterators (at_numeric a).out (at_numeric a).breaking (at_numeric a).continuing (at_numeric a).after there
      ⊎ AtFault (final_program script) c there)
      → HostCallFree m c (λ there. AtFollowing script a.home a.around a.next a.further c there ⊎ AtFault (final_program script) c there)
  goes_on m a q = record {
    steps = q.steps;
    place = q.place;
    goes = q.goes;
    holds = elim q.holds [ inl n ↦ inl (following a q.place n) | inr f ↦ inr f ];
  }
