-- Mid code: structured code over the table of primitives. Operands are evaluated from left to right, and once all of them are, each is converted to
-- the sort that its operation wants. A conversion belongs to the operation, by the form that is there and the sort that is wanted: no code stands for
-- it. A name's code says whether the name is unboxed, which is where it is kept and not what it means. What is evaluated once and used later is kept
-- (`Let`) and named by how many others were kept after it (`Bound`); its last use says that it moves what an earlier one copies.
use Rattle.std.specs.Prelude.{ℕ, zero, suc, Bool, true, false, List, [], ◌∷◌, Option, Some, None, ℤ}
use Rattle.awk_values.specs.declared.comparison.CompareOp.{CompareOp}
use Rattle.sem_primitives.specs.Table.{arguments_of, answer_of, listed_answer}
use Rattle.sem_primitives.specs.declared.sorts.Sort.{Sort}
use Rattle.sem_primitives.specs.declared.sorts.Sort.TheVariants as sort
use Rattle.sem_primitives.specs.declared.sorts.Argument.{Argument}
use Rattle.sem_primitives.specs.declared.sorts.Argument.TheVariants as argument
use Rattle.sem_primitives.specs.declared.sorts.Answer.{Answer}
use Rattle.sem_primitives.specs.declared.sorts.Answer.TheVariants as answer
use Rattle.sem_primitives.specs.declared.table.Listed.{Listed}
use Rattle.mid_program.specs.declared.mid.Operation.{Operation}
use Rattle.mid_program.specs.declared.mid.Operation.TheVariants.{Host, Inline, AsNumber, FieldNumber}
use Rattle.sem_scripts.specs.Names.{ArrayName}

-- what a name of the program is: a scalar whose value is boxed, one that is a number unless the command line gave it a text, or an array
pub data Kind : Type 0 where
  Boxed : Kind
  Unboxed : Kind
  ArrayKind : Kind

-- a scalar: a global by its number, or a parameter; and whether it is unboxed
pub data Slot : Type 0 where
  Global : (unboxed : Bool) → ℕ → Slot
  Parameter : (unboxed : Bool) → ℕ → Slot

mutual
  pub data Code : Type 0 where
    -- an operation on operands
    Do : Operation → Codes → Code
    -- one on a list of values
    Over : Listed → Codes → Code
    -- a comparison, of numbers where both are
    Compare : CompareOp → Code → Code → Code
    -- a call of a function, by its number
    Call : ℕ → Codes → Code
    -- getline: a record of the main input, after the assignments of the command line that come first
    Ask : Code
    -- the same into a variable: where a text was read, it is kept while the code stores it
    AskLine : (store : Code) → Code
    -- from a file
    FileLine : (file : Code) → (store : Code) → Code
    -- expression, replacement and target; where anything was replaced, the new text is kept while the code stores it. The answer is how many were
    Replace : (all : Bool) → Codes → (store : Code) → Code
    Number : ℤ → Code
    -- the text of this place in the list of texts
    Text : ℕ → Code
    -- what a parameter is without an argument
    Unset : Code
    Get : Slot → Code
    -- a scalar takes what is answered
    Set : Slot → Code → Code
    Array : ArrayName → Code
    -- whether a range is open
    IsOpen : ℕ → Code
    -- one of two, as this sort, by the truth of the first
    Choose : Sort → Code → Code → Code → Code
    -- the answer of the first is dropped, and then the second is evaluated
    Seq : Code → Code → Code
    -- the answer of the first is kept while the second is evaluated; where it is not moved on the way it is dropped at the end
    Let : Code → Code → Code
    -- what was kept, with so many others after it: moved, which is its last use, or copied
    Bound : (moves : Bool) → ℕ → Code

  pub data Codes : Type 0 where
    End : Codes
    At : Code → Codes → Codes
    -- a constant argument
    Fixed : ℕ → Codes → Codes
    -- an array made for a call, where an argument is missing
    Fresh : Codes → Codes

mutual
  pub data Step : Type 0 where
    Eval : Code → Step
    Block : Steps → Step
    If : Code → Step → Step → Step
    -- a loop, whose first round may go without the test: test, body, and what stands between the body and the next test
    Loop : Bool → Code → Step → Step → Step
    -- the keys of an array, each kept while the code stores it
    Each : ArrayName → Code → Step → Step
    Break : Step
    Continue : Step
    Next : Step
    Exit : Step
    ExitWith : Code → Step
    Return : Code → Step
    -- a range opens, or closes
    Mark : ℕ → Bool → Step

  pub data Steps : Type 0 where
    NoStep : Steps
    Then : Step → Steps → Steps

-- a global name; if it is unboxed, whether values that may be texts are copied to it
pub record Declared : Type 0 where
  pub name : List ℕ
  pub kind : Kind
  pub mixed : Bool

-- a function: its name, what it is given, and its body
pub record Routine : Type 0 where
  pub name : List ℕ
  pub parameters : List Kind
  pub body : Steps

pub record Program : Type 0 where
  pub texts : List (List ℕ)
  -- by the places of parameters: the global that lends its value there. An unboxed parameter at that place, of any function, is given numbers or copies
  -- of this global. Code leaves the global as it is, so a module may read it again where the parameter has no number
  pub lenders : List (Option ℕ)
  -- what is announced to the host, and made before the script runs; then the functions are announced
  pub globals : List Declared
  pub routines : List Routine
  -- how many ranges there are
  pub ranges : ℕ
  pub begin : Steps
  -- whether records are read
  pub reads : Bool
  pub items : Steps
  pub end : Steps

-- Forms: what is there once code is evaluated.

pub data Form : Type 0 where
  -- what a primitive answers
  PrimitiveAnswer : Answer → Form
  -- what an unboxed name has, and what a function answers: a number or nothing, and perhaps a text beside it
  NumberOrText : Form
  -- what an unboxed parameter is given: a number or nothing
  OptionalNumber : Form

abbrev pub a_value : Form
a_value = PrimitiveAnswer (answer.Of sort.Value)

abbrev pub a_number : Form
a_number = PrimitiveAnswer (answer.Of sort.Number)

abbrev pub answer_by : Operation → Answer
answer_by (Host p) = answer_of p
answer_by (Inline a) = answer.Of sort.Number
answer_by AsNumber = answer.Of sort.Number
answer_by FieldNumber = answer.Of sort.Number

abbrev pub read_form : Bool → Form
read_form true = NumberOrText
read_form false = a_value

abbrev pub slot_form : Slot → Form
slot_form (Global u i) = read_form u
slot_form (Parameter u i) = read_form u

-- what is kept under a number
abbrev pub form_at : List Form → ℕ → Form
form_at [] i = PrimitiveAnswer answer.Nothing
form_at (f ∷ fs) zero = f
form_at (f ∷ fs) (suc i) = form_at fs i

-- the form of code, where things of these forms are kept
abbrev pub form_of : List Form → Code → Form
form_of fs (Do o es) = PrimitiveAnswer (answer_by o)
form_of fs (Over l es) = PrimitiveAnswer (listed_answer l)
form_of fs (Compare c a b) = PrimitiveAnswer answer.Truth
form_of fs (Call f es) = NumberOrText
form_of fs Ask = a_number
form_of fs (AskLine s) = a_number
form_of fs (FileLine e s) = a_number
form_of fs (Replace all es s) = a_number
form_of fs (Number z) = a_number
form_of fs (Text i) = a_value
form_of fs Unset = OptionalNumber
form_of fs (Get x) = slot_form x
form_of fs (Set x e) = form_of fs e
form_of fs (Array a) = PrimitiveAnswer (answer.Of sort.Array)
form_of fs (IsOpen i) = PrimitiveAnswer answer.Truth
form_of fs (Choose s c a b) = PrimitiveAnswer (answer.Of s)
form_of fs (Seq a b) = form_of fs b
form_of fs (Let a b) = form_of (form_of fs a ∷ fs) b
form_of fs (Bound m i) = form_at fs i

-- the name whose value code gives, if it does nothing else
abbrev pub source_of : Code → Option Slot
source_of (Get x) = Some x
source_of e = None

abbrev pub arguments : Operation → List Argument
arguments (Host p) = arguments_of p
arguments (Inline a) = argument.Of sort.Number ∷ (argument.Of sort.Number ∷ [])
arguments AsNumber = argument.Of sort.Number ∷ []
arguments FieldNumber = argument.Of sort.Number ∷ []

-- of a function that is not there: none
abbrev pub parameters_at : List (List Kind) → ℕ → List Kind
parameters_at [] f = []
parameters_at (ps ∷ rest) zero = ps
parameters_at (ps ∷ rest) (suc f) = parameters_at rest f
