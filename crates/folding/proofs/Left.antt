-- No operator on two number constants is left that does not fault.
use Rattle.std.proofs.Common.{◌≡◌, List, [], ◌∷◌, map, Option, Some, None, Result, Ok, Err, refl, ap, sym, ◌∙◌}
use Rattle.awk_values.specs.declared.fault.Fault.{Fault}
use Rattle.sem_primitives.specs.Numbers.{Number as AnyNumber, outcome_of}
use Rattle.sem_primitives.specs.ValueMeaning.{power_row}
use Rattle.sem_primitives.specs.declared.table.Primitive.TheVariants.{Pow}
use Rattle.sem_primitives.proofs.Words.{number_again}
use Rattle.mid_program.specs.declared.mid.Operation.{Operation}
use Rattle.mid_program.specs.declared.mid.Operation.TheVariants.{Host, Inline}
use Rattle.mid_program.specs.Mid.{Code, Do, Over, Compare, Call, Ask, AskLine, FileLine, Replace, Number, Text, Unset, Get, Set, Array, IsOpen, Choose, Seq, Let, Bound, Codes, End, At, Fixed, Fresh, Step, Eval, Block, If, Loop, Each, Break, Continue, Next, Exit, ExitWith, Return, Mark, Steps, NoStep, Then, Routine, Program}
use Rattle.mid_program.specs.MidMeaning.{arithmetic_of}
use Rattle.mid_program.specs.Rewriting.{codes_in, step_in}
use Rattle.folding.specs.Folding.{same, unless_fault, of_two, value_of, reduced_to, reduced, folded, folded_steps, folded_routine, fold}
use Rattle.folding.specs.Left.{Faults, MayStay, IsFolded, AreFolded, StepFolded, StepsFolded, RoutinesFolded, NoneLeft}

faults_by : (r : Result AnyNumber Fault) → unless_fault r ≡ None → Faults r
faults_by (Ok n) h = absurd cc
faults_by (Err fault) h = tt

stays : (o : Operation) (es : Codes) → value_of o es ≡ None → MayStay o es
stays (Inline a) es h = λ m n e. faults_by (outcome_of (arithmetic_of a m.number n.number))
    ((λ i. of_two (Inline a) (sym (number_again m) i) (sym (number_again n) i)) ∙ sym (ap (value_of (Inline a)) e) ∙ h)
stays (Host Pow) es h = λ m n e. faults_by (power_row m n) ((λ i. of_two (Host Pow) (sym (number_again m) i) (sym (number_again n) i)) ∙ sym (ap (value_of (Host Pow)) e) ∙ h)
stays _ es h = tt

reduced_left : (o : Operation) (es : Codes) (v : Option AnyNumber) → value_of o es ≡ v → AreFolded es → IsFolded (reduced_to v o es)
reduced_left o es (Some n) h k = tt
reduced_left o es None h k = (stays o es h, k)

mutual
  code_left : (e : Code) → IsFolded (folded e)
  code_left (Do o es) = reduced_left o (codes_in same reduced es) (value_of o (codes_in same reduced es)) refl (codes_left es)
  code_left (Over l es) = codes_left es
  code_left (Compare c a b) = (code_left a, code_left b)
  code_left (Call f es) = codes_left es
  code_left Ask = tt
  code_left (AskLine s) = code_left s
  code_left (FileLine e s) = (code_left e, code_left s)
  code_left (Replace all es s) = (codes_left es, code_left s)
  code_left (Number z) = tt
  code_left (Text i) = tt
  code_left Unset = tt
  code_left (Get x) = tt
  code_left (Set x e) = code_left e
  code_left (Array a) = tt
  code_left (IsOpen i) = tt
  code_left (Choose s c a b) = (code_left c, (code_left a, code_left b))
  code_left (Seq a b) = (code_left a, code_left b)
  code_left (Let a b) = (code_left a, code_left b)
  code_left (Bound m i) = tt

  codes_left : (es : Codes) → AreFolded (codes_in same reduced es)
  codes_left End = tt
  codes_left (At e es) = (code_left e, codes_left es)
  codes_left (Fixed n es) = codes_left es
  codes_left (Fresh es) = codes_left es

mutual
  step_left : (s : Step) → StepFolded (step_in same reduced s)
  step_left (Eval e) = code_left e
  step_left (Block ss) = steps_left ss
  step_left (If e a b) = (code_left e, (step_left a, step_left b))
  step_left (Loop first e a b) = (code_left e, (step_left a, step_left b))
  step_left (Each a e s) = (code_left e, step_left s)
  step_left Break = tt
  step_left Continue = tt
  step_left Next = tt
  step_left Exit = tt
  step_left (ExitWith e) = code_left e
  step_left (Return e) = code_left e
  step_left (Mark i b) = tt

  steps_left : (ss : Steps) → StepsFolded (folded_steps ss)
  steps_left NoStep = tt
  steps_left (Then s ss) = (step_left s, steps_left ss)

routines_left : (rs : List Routine) → RoutinesFolded (map folded_routine rs)
routines_left [] = tt
routines_left (r ∷ rs) = (steps_left r.body, routines_left rs)

pub none_left : (p : Program) → NoneLeft (fold p)
none_left p = (routines_left p.routines, (steps_left p.begin, (steps_left p.items, steps_left p.end)))
