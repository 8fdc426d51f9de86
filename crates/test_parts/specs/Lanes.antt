-- A program where some names are unboxed: by the numbers of the globals, and for each function by those of its parameters.
use Rattle.std.specs.Prelude.{ℕ, Bool, true, false, List, [], ◌∷◌, get_or}
use Rattle.mid_program.specs.Mid.{Kind, Unboxed, Slot, Global, Parameter, Code, Do, Over, Compare, Call, Ask, AskLine, FileLine, Replace, Number, Text, Unset, Get, Set, Array, IsOpen, Choose, Seq, Let, Bound, Codes, End, At, Fixed, Fresh, Step, Eval, Block, If, Loop, Each, Break, Continue, Next, Exit, ExitWith, Return, Mark, Steps, NoStep, Then, Declared, Routine, Program}

abbrev lane : List Bool → ℕ → Bool
lane lanes i = get_or lanes i false

abbrev kind_in : Bool → Kind → Kind
kind_in true k = Unboxed
kind_in false k = k

module _ (globals parameters : List Bool) where
  abbrev slot_in : Slot → Slot
  slot_in (Global u i) = Global (lane globals i) i
  slot_in (Parameter u i) = Parameter (lane parameters i) i

  abbrev mutual
    code_in : Code → Code
    code_in (Do o es) = Do o (codes_in es)
    code_in (Over l es) = Over l (codes_in es)
    code_in (Compare c a b) = Compare c (code_in a) (code_in b)
    code_in (Call f es) = Call f (codes_in es)
    code_in Ask = Ask
    code_in (AskLine s) = AskLine (code_in s)
    code_in (FileLine e s) = FileLine (code_in e) (code_in s)
    code_in (Replace all es s) = Replace all (codes_in es) (code_in s)
    code_in (Number z) = Number z
    code_in (Text i) = Text i
    code_in Unset = Unset
    code_in (Get x) = Get (slot_in x)
    code_in (Set x e) = Set (slot_in x) (code_in e)
    code_in (Array a) = Array a
    code_in (IsOpen i) = IsOpen i
    code_in (Choose s c a b) = Choose s (code_in c) (code_in a) (code_in b)
    code_in (Seq a b) = Seq (code_in a) (code_in b)
    code_in (Let a b) = Let (code_in a) (code_in b)
    code_in (Bound m i) = Bound m i

    codes_in : Codes → Codes
    codes_in End = End
    codes_in (At e es) = At (code_in e) (codes_in es)
    codes_in (Fixed n es) = Fixed n (codes_in es)
    codes_in (Fresh es) = Fresh (codes_in es)

  abbrev mutual
    step_in : Step → Step
    step_in (Eval e) = Eval (code_in e)
    step_in (Block ss) = Block (steps_in ss)
    step_in (If e a b) = If (code_in e) (step_in a) (step_in b)
    step_in (Loop first e a b) = Loop first (code_in e) (step_in a) (step_in b)
    step_in (Each a e s) = Each a (code_in e) (step_in s)
    step_in Break = Break
    step_in Continue = Continue
    step_in Next = Next
    step_in Exit = Exit
    step_in (ExitWith e) = ExitWith (code_in e)
    step_in (Return e) = Return (code_in e)
    step_in (Mark i b) = Mark i b

    steps_in : Steps → Steps
    steps_in NoStep = NoStep
    steps_in (Then s ss) = Then (step_in s) (steps_in ss)

abbrev kinds_in : List Bool → List Kind → List Kind
kinds_in lanes [] = []
kinds_in [] ks = ks
kinds_in (u ∷ us) (k ∷ ks) = kind_in u k ∷ kinds_in us ks

abbrev declared_in : List Bool → List Declared → List Declared
declared_in lanes [] = []
declared_in [] ds = ds
declared_in (u ∷ us) (d ∷ ds) = (record d { kind = kind_in u d.kind }) ∷ declared_in us ds

abbrev routine_in : List Bool → List Bool → Routine → Routine
routine_in globals parameters r = record r { parameters = kinds_in parameters r.parameters; body = steps_in globals parameters r.body }

abbrev routines_in : List Bool → List (List Bool) → List Routine → List Routine
routines_in globals lanes [] = []
routines_in globals [] (r ∷ rs) = routine_in globals [] r ∷ routines_in globals [] rs
routines_in globals (us ∷ lanes) (r ∷ rs) = routine_in globals us r ∷ routines_in globals lanes rs

abbrev pub unboxed : (globals : List Bool) → (parameters : List (List Bool)) → Program → Program
unboxed globals parameters p = record p {
  globals = declared_in globals p.globals;
  routines = routines_in globals parameters p.routines;
  begin = steps_in globals [] p.begin;
  items = steps_in globals [] p.items;
  end = steps_in globals [] p.end;
}
