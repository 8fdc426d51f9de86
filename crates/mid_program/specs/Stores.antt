-- What code stores into scalars, in the order of the code: where, of which name it is a copy, if it is one, and in which form it is there.
use Rattle.std.specs.Prelude.{ℕ, suc, List, [], ◌∷◌, ◌++◌, Option}
use Rattle.mid_program.specs.Mid.{Slot, Code, Do, Over, Compare, Call, Ask, AskLine, FileLine, Replace, Number, Text, Unset, Get, Set, Array, IsOpen, Choose, Seq, Let, Bound, Codes, End, At, Fixed, Fresh, Step, Eval, Block, If, Loop, Each, Break, Continue, Next, Exit, ExitWith, Return, Mark, Steps, NoStep, Then, Form, a_value, form_of, source_of}

pub data Store : Type 0 where
  Into : Slot → Option Slot → Form → Store
  -- an argument: for a function, by its number, and its parameter's place
  Given : ℕ → ℕ → Option Slot → Form → Store
  -- the main input is read: the command line may assign to any global
  Asked : Store

abbrev mutual
  pub stores : List Form → Code → List Store
  stores fs (Do o es) = stores_in fs es
  stores fs (Over l es) = stores_in fs es
  stores fs (Compare c a b) = stores fs a ++ stores fs b
  stores fs (Call f es) = stores_given f 0 fs es
  stores fs Ask = Asked ∷ []
  stores fs (AskLine s) = Asked ∷ stores (a_value ∷ fs) s
  stores fs (FileLine e s) = stores fs e ++ stores (a_value ∷ fs) s
  stores fs (Replace all es s) = stores_in fs es ++ stores (a_value ∷ fs) s
  stores fs (Number z) = []
  stores fs (Text i) = []
  stores fs Unset = []
  stores fs (Get x) = []
  stores fs (Set x e) = stores fs e ++ (Into x (source_of e) (form_of fs e) ∷ [])
  stores fs (Array a) = []
  stores fs (IsOpen i) = []
  stores fs (Choose s c a b) = stores fs c ++ (stores fs a ++ stores fs b)
  stores fs (Seq a b) = stores fs a ++ stores fs b
  stores fs (Let a b) = stores fs a ++ stores (form_of fs a ∷ fs) b
  stores fs (Bound m i) = []

  pub stores_in : List Form → Codes → List Store
  stores_in fs End = []
  stores_in fs (At e es) = stores fs e ++ stores_in fs es
  stores_in fs (Fixed n es) = stores_in fs es
  stores_in fs (Fresh es) = stores_in fs es

  -- arguments from the i-th on
  pub stores_given : ℕ → ℕ → List Form → Codes → List Store
  stores_given f i fs End = []
  stores_given f i fs (At e es) = stores fs e ++ (Given f i (source_of e) (form_of fs e) ∷ stores_given f (suc i) fs es)
  stores_given f i fs (Fixed n es) = stores_given f (suc i) fs es
  stores_given f i fs (Fresh es) = stores_given f (suc i) fs es

abbrev mutual
  pub step_stores : Step → List Store
  step_stores (Eval e) = stores [] e
  step_stores (Block ss) = steps_stores ss
  step_stores (If e a b) = stores [] e ++ (step_stores a ++ step_stores b)
  step_stores (Loop first e a b) = stores [] e ++ (step_stores a ++ step_stores b)
  step_stores (Each a e s) = stores (a_value ∷ []) e ++ step_stores s
  step_stores Break = []
  step_stores Continue = []
  step_stores Next = []
  step_stores Exit = []
  step_stores (ExitWith e) = stores [] e
  step_stores (Return e) = stores [] e
  step_stores (Mark i b) = []

  pub steps_stores : Steps → List Store
  steps_stores NoStep = []
  steps_stores (Then s ss) = step_stores s ++ steps_stores ss

abbrev pub Every : (Store → Type 0) → List Store → Type 0
Every P [] = Unit {0}
Every P (s ∷ ss) = P s × Every P ss
