-- What folding leaves.
use Rattle.std.specs.Prelude.{◌≡◌, List, [], ◌∷◌, Result, Ok, Err}
use Rattle.awk_values.specs.declared.fault.Fault.{Fault}
use Rattle.sem_primitives.specs.Numbers.{Number as AnyNumber, outcome_of}
use Rattle.sem_primitives.specs.ValueMeaning.{power_row}
use Rattle.sem_primitives.specs.declared.table.Primitive.TheVariants.{Pow}
use Rattle.mid_program.specs.declared.mid.Operation.{Operation}
use Rattle.mid_program.specs.declared.mid.Operation.TheVariants.{Host, Inline}
use Rattle.mid_program.specs.Mid.{Code, Do, Over, Compare, Call, Ask, AskLine, FileLine, Replace, Number, Text, Unset, Get, Set, Array, IsOpen, Choose, Seq, Let, Bound, Codes, End, At, Fixed, Fresh, Step, Eval, Block, If, Loop, Each, Break, Continue, Next, Exit, ExitWith, Return, Mark, Steps, NoStep, Then, Routine, Program}
use Rattle.mid_program.specs.MidMeaning.{arithmetic_of}

abbrev pub Faults : Result AnyNumber Fault → Type 0
Faults (Ok n) = ⊥
Faults (Err fault) = Unit {0}

abbrev pub two_numbers : AnyNumber → AnyNumber → Codes
two_numbers m n = At (Number m.number) (At (Number n.number) End)

-- an operator of `+ - * / % ^` and the truncated quotient: on two number constants it faults
abbrev pub MayStay : Operation → Codes → Type 0
MayStay (Inline a) es = (m n : AnyNumber) → es ≡ two_numbers m n → Faults (outcome_of (arithmetic_of a m.number n.number))
MayStay (Host Pow) es = (m n : AnyNumber) → es ≡ two_numbers m n → Faults (power_row m n)
MayStay _ es = Unit {0}

-- so for each operation within code
abbrev mutual
  pub IsFolded : Code → Type 0
  IsFolded (Do o es) = MayStay o es × AreFolded es
  IsFolded (Over l es) = AreFolded es
  IsFolded (Compare c a b) = IsFolded a × IsFolded b
  IsFolded (Call f es) = AreFolded es
  IsFolded Ask = Unit {0}
  IsFolded (AskLine s) = IsFolded s
  IsFolded (FileLine e s) = IsFolded e × IsFolded s
  IsFolded (Replace all es s) = AreFolded es × IsFolded s
  IsFolded (Number z) = Unit {0}
  IsFolded (Text i) = Unit {0}
  IsFolded Unset = Unit {0}
  IsFolded (Get x) = Unit {0}
  IsFolded (Set x e) = IsFolded e
  IsFolded (Array a) = Unit {0}
  IsFolded (IsOpen i) = Unit {0}
  IsFolded (Choose s c a b) = IsFolded c × (IsFolded a × IsFolded b)
  IsFolded (Seq a b) = IsFolded a × IsFolded b
  IsFolded (Let a b) = IsFolded a × IsFolded b
  IsFolded (Bound m i) = Unit {0}

  pub AreFolded : Codes → Type 0
  AreFolded End = Unit {0}
  AreFolded (At e es) = IsFolded e × AreFolded es
  AreFolded (Fixed n es) = AreFolded es
  AreFolded (Fresh es) = AreFolded es

abbrev mutual
  pub StepFolded : Step → Type 0
  StepFolded (Eval e) = IsFolded e
  StepFolded (Block ss) = StepsFolded ss
  StepFolded (If e a b) = IsFolded e × (StepFolded a × StepFolded b)
  StepFolded (Loop first e a b) = IsFolded e × (StepFolded a × StepFolded b)
  StepFolded (Each a e s) = IsFolded e × StepFolded s
  StepFolded Break = Unit {0}
  StepFolded Continue = Unit {0}
  StepFolded Next = Unit {0}
  StepFolded Exit = Unit {0}
  StepFolded (ExitWith e) = IsFolded e
  StepFolded (Return e) = IsFolded e
  StepFolded (Mark i b) = Unit {0}

  pub StepsFolded : Steps → Type 0
  StepsFolded NoStep = Unit {0}
  StepsFolded (Then s ss) = StepFolded s × StepsFolded ss

abbrev pub RoutinesFolded : List Routine → Type 0
RoutinesFolded [] = Unit {0}
RoutinesFolded (r ∷ rs) = StepsFolded r.body × RoutinesFolded rs

-- no operator on two number constants is left that does not fault
abbrev pub NoneLeft : Program → Type 0
NoneLeft p = RoutinesFolded p.routines × (StepsFolded p.begin × (StepsFolded p.items × StepsFolded p.end))
