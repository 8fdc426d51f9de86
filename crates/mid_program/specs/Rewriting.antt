-- Code whose names and operations are written anew: what becomes of a scalar's name, and of an operation on operands that were rewritten.
use Rattle.mid_program.specs.declared.mid.Operation.{Operation}
use Rattle.mid_program.specs.Mid.{Slot, Code, Do, Over, Compare, Call, Ask, AskLine, FileLine, Replace, Number, Text, Unset, Get, Set, Array, IsOpen, Choose, Seq, Let, Bound, Codes, End, At, Fixed, Fresh, Step, Eval, Block, If, Loop, Each, Break, Continue, Next, Exit, ExitWith, Return, Mark, Steps, NoStep, Then}

module _ (slots : Slot → Slot) (operation : Operation → Codes → Code) where
  abbrev mutual
    pub code_in : Code → Code
    code_in (Do o es) = operation o (codes_in es)
    code_in (Over l es) = Over l (codes_in es)
    code_in (Compare c a b) = Compare c (code_in a) (code_in b)
    code_in (Call f es) = Call f (codes_in es)
    code_in Ask = Ask
    code_in (AskLine s) = AskLine (code_in s)
    code_in (FileLine e s) = FileLine (code_in e) (code_in s)
    code_in (Replace all es s) = Replace all (codes_in es) (code_in s)
    code_in (Number z) = Number z
    code_in (Text i) = Text i
    code_in Unset = Unset
    code_in (Get x) = Get (slots x)
    code_in (Set x e) = Set (slots x) (code_in e)
    code_in (Array a) = Array a
    code_in (IsOpen i) = IsOpen i
    code_in (Choose s c a b) = Choose s (code_in c) (code_in a) (code_in b)
    code_in (Seq a b) = Seq (code_in a) (code_in b)
    code_in (Let a b) = Let (code_in a) (code_in b)
    code_in (Bound m i) = Bound m i

    pub codes_in : Codes → Codes
    codes_in End = End
    codes_in (At e es) = At (code_in e) (codes_in es)
    codes_in (Fixed n es) = Fixed n (codes_in es)
    codes_in (Fresh es) = Fresh (codes_in es)

  abbrev mutual
    pub step_in : Step → Step
    step_in (Eval e) = Eval (code_in e)
    step_in (Block ss) = Block (steps_in ss)
    step_in (If e a b) = If (code_in e) (step_in a) (step_in b)
    step_in (Loop first e a b) = Loop first (code_in e) (step_in a) (step_in b)
    step_in (Each a e s) = Each a (code_in e) (step_in s)
    step_in Break = Break
    step_in Continue = Continue
    step_in Next = Next
    step_in Exit = Exit
    step_in (ExitWith e) = ExitWith (code_in e)
    step_in (Return e) = Return (code_in e)
    step_in (Mark i b) = Mark i b

    pub steps_in : Steps → Steps
    steps_in NoStep = NoStep
    steps_in (Then s ss) = Then (step_in s) (steps_in ss)
