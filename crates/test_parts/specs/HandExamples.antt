-- Programs by hand: one loop over keys after another, what is kept and never moved, what faults while things are held, and arrays that are made for calls.
use Rattle.std.specs.Prelude.{◌≡◌, ℕ, true, false, List, [], ◌∷◌, codes, Some, pos, refl}
use Rattle.std.specs.Fmt.{digits}
use Rattle.awk_text.specs.Reading.{numeral_at, sign_at, fraction_at, exponent_at}
use Rattle.awk_text.specs.Number.{numerator, denominator}
use Rattle.awk_values.specs.declared.fault.Fault.TheVariants.{Fraction}
use Rattle.world_core.specs.WorldState.{Standard, puts}
use Rattle.sem_primitives.specs.declared.constants.Destination.TheVariants as to
use Rattle.sem_primitives.specs.declared.table.Listed.TheVariants.{Print}
use Rattle.sem_primitives.specs.declared.table.Primitive.TheVariants.{Elem, Concat}
use Rattle.sem_scripts.specs.ScriptRun.{Ended, FaultedBy}
use Rattle.mid_program.specs.declared.mid.Arithmetic.TheVariants.{Plus}
use Rattle.mid_program.specs.declared.mid.Operation.TheVariants.{Host, Inline}
use Rattle.sem_scripts.specs.Names.{Numbered, Given}
use Rattle.mid_program.specs.Sorted.{sorted, all_sorted, step_sorted, steps_sorted, is_sorted}
use Rattle.mid_program.specs.Mid.{Kind, Boxed, ArrayKind, Global, Code, Do, Over, Call, Number, Text, Get, Set, Array, Let, Bound, End, At, Fresh, Step, Eval, Each, Break, Continue, Steps, NoStep, Then, Declared, Routine, Program}
use Rattle.lower_model.specs.Emission.{emitted, all_emitted}
use Rattle.lower_model.specs.Statements.{step_emitted, steps_emitted}
use Rattle.lower_model.specs.Runs.{value_run}
use Rattle.lower_model.specs.Functions.{main_callee}
use Rattle.lower_model.specs.Boundaries.{steps_places, nops_in}
use Rattle.test_parts.specs.CountExamples.{plain_setting}

abbrev name : Kind → List ℕ → Declared
name kind text = record { name = text; kind = kind; mixed = false }

-- names: k, and an array a; texts: x and y
abbrev program : List Routine → Steps → Program
program rs ss = record {
  texts = codes "x" ∷ (codes "y" ∷ []);
  lenders = [];
  globals = name Boxed (codes "k")
      ∷ (name ArrayKind (codes "a") ∷ []);
  routines = rs;
  ranges = 0;
  begin = ss;
  reads = false;
  items = NoStep;
  end = NoStep;
}

abbrev printed : Code → Step
printed e = Eval (Over (Print to.Standard) (At e End))

abbrev element : ℕ → Step
element i = Eval (Do (Host Elem) (At (Array (Numbered 2)) (At (Text i) End)))

abbrev k : Code
k = Get (Global false 0)

abbrev each : Step → Step
each s = Each (Numbered 2) (Set (Global false 0) (Bound true 0)) s

-- a["x"]; a["y"]; for (k in a) print k; for (k in a) break; for (k in a) { for (k in a) print k; continue }
abbrev loops : Program
loops = program [] (Then (element 0) (Then (element 1)
    (Then (each (printed k)) (Then (each Break) (Then (each (each (printed k))) (Then (each Continue) NoStep))))))

pub loops_in_turn : is_sorted loops ≡ true × value_run loops plain_setting 2000 ≡ Some (Ended 0 (puts Standard (codes "x\ny\nx\ny\nx\ny\n")))
unfolding sorted all_sorted step_sorted steps_sorted emitted all_emitted step_emitted steps_emitted digits
loops_in_turn = (refl, refl)

-- a text is kept and copied, and never moved
abbrev kept : Program
kept = program [] (Then (Eval (Let (Text 0) (Over (Print to.Standard) (At (Bound false 0) (At (Bound false 0) End))))) (Then (printed (Text 1)) NoStep))

pub kept_and_copied : is_sorted kept ≡ true × value_run kept plain_setting 400 ≡ Some (Ended 0 (puts Standard (codes "x x\ny\n")))
unfolding sorted all_sorted step_sorted steps_sorted emitted all_emitted step_emitted steps_emitted digits
kept_and_copied = (refl, refl)

-- function f(b) { b["x"]; for (k in b) print k }  BEGIN { f(); f() "x"; print (f() "x") + 1 }
abbrev made : Program
made =
    program ((record {
      name = codes "f";
      parameters = ArrayKind
          ∷ [];
      body = Then (Eval (Do (Host Elem) (At (Array (Given 0)) (At (Text 0) End))))
          (Then (Each (Given 0) (Set (Global false 0) (Bound true 0)) (printed k)) NoStep);
    }) ∷ [])
    (Then (Eval (Call 0 (Fresh End))) (Then (Eval (Do (Host Concat) (At (Call 0 (Fresh End)) (At (Text 0) End))))
    (Then (printed (Do (Inline Plus) (At (Number (pos 1)) (At (Call 0 (Fresh End)) End)))) NoStep)))

pub arrays_made : is_sorted made ≡ true × value_run made plain_setting 2000 ≡ Some (Ended 0 (puts Standard (codes "x\nx\nx\n1\n")))
unfolding sorted all_sorted step_sorted steps_sorted emitted all_emitted step_emitted steps_emitted digits
arrays_made = (refl, refl)

-- function f(b) { for (k in a) print ("x" + 0.5 as a text) }: a fault inside a walk, an open call and a half-evaluated list
abbrev faulted : Program
faulted =
    record (program ((record {
      name = codes "f";
      parameters = ArrayKind
          ∷ [];
      body = Then (each (Eval (Over (Print to.Standard)
          (At (Text 0) (At (Do (Inline Plus) (At (Text 2) (At (Number (pos 1)) End))) End))))) NoStep;
    }) ∷ [])
    (Then (element 0) (Then (Eval (Over (Print to.Standard) (At (Text 1) (At (Call 0 (Fresh End)) End)))) NoStep))) {
      texts = codes "x"
          ∷ (codes "y" ∷ (codes "0.5" ∷ []));
    }

pub fault_while_held : is_sorted faulted ≡ true × value_run faulted plain_setting 2000 ≡ Some (FaultedBy Fraction [])
unfolding sorted all_sorted step_sorted steps_sorted emitted all_emitted step_emitted steps_emitted digits numeral_at sign_at fraction_at exponent_at numerator denominator
fault_while_held = (refl, refl)

-- each step has its place
pub places_of_loops : nops_in (main_callee loops).body ≡ steps_places loops.begin
unfolding emitted all_emitted step_emitted steps_emitted
places_of_loops = refl
