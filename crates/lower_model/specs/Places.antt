-- Where things stand: the locals of a function, the globals of a module, and the texts in its memory; and how many temporaries, iterators and arrays
-- of calls code needs at once.
use Rattle.std.specs.Prelude.{ℕ, zero, suc, ◌+◌, max, List, [], ◌∷◌, ◌++◌, length}
use Rattle.wasm_types.specs.declared.types.ValType.{ValType}
use Rattle.wasm_types.specs.declared.types.ValType.TheVariants.{I32, I64}
use Rattle.mid_program.specs.declared.mid.Arithmetic.{Arithmetic}
use Rattle.mid_program.specs.declared.mid.Arithmetic.TheVariants.{Times}
use Rattle.mid_program.specs.declared.mid.Operation.TheVariants.{Inline}
use Rattle.mid_program.specs.Mid.{Kind, Boxed, Unboxed, ArrayKind, Code, Do, Over, Compare, Call, Ask, AskLine, FileLine, Replace, Number, Text, Unset, Get, Set, Array, IsOpen, Choose, Seq, Let, Bound, Codes, End, At, Fixed, Fresh, Step, Eval, Block, If, Loop, Each, Break, Continue, Next, Exit, ExitWith, Return, Mark, Steps, NoStep, Then}

-- Texts: one after the other.

abbrev pub place_of : List (List ℕ) → ℕ → ℕ
place_of [] number = zero
place_of (text ∷ texts) zero = zero
place_of (text ∷ texts) (suc number) = length text + place_of texts number

abbrev pub memory_of : List (List ℕ) → List ℕ
memory_of [] = []
memory_of (text ∷ texts) = text ++ memory_of texts

-- Globals: how the function is being left, the status, the text that a function returns, whether the range of each item is open, and for each name a
-- handle, or an array, and a number.

abbrev pub way_global : ℕ
way_global = 0

abbrev pub status_global : ℕ
status_global = 1

-- where the handle of a text waits that a function returns
abbrev pub text_global : ℕ
text_global = 2

abbrev pub range_global : ℕ → ℕ
range_global item = suc (suc (suc item))

abbrev pub handle_global : (ranges : ℕ) → ℕ → ℕ
handle_global ranges name = suc (suc (suc ranges)) + (name + name)

abbrev pub number_global : (ranges : ℕ) → ℕ → ℕ
number_global ranges name = suc (suc (suc (suc ranges)) + (name + name))

-- the name of an array of the script, by its number
abbrev pub array_name : List Kind → ℕ → ℕ
array_name [] number = zero
array_name (ArrayKind ∷ kinds) zero = zero
array_name (ArrayKind ∷ kinds) (suc number) = suc (array_name kinds number)
array_name (Boxed ∷ kinds) number = suc (array_name kinds number)
array_name (Unboxed ∷ kinds) number = suc (array_name kinds number)

-- Locals of a function: its parameters, its answer, temporaries with a local of 32 bits and one of 64 each, iterators, and arrays that are made for calls.
pub record Bases : Type 0 where
  pub parameters : ℕ
  pub temporaries : ℕ
  pub iterators : ℕ
  pub arrays : ℕ

abbrev pub answer_local : Bases → ℕ
answer_local bases = bases.parameters

abbrev pub handle_local : Bases → ℕ → ℕ
handle_local bases temporary = suc bases.parameters + (temporary + temporary)

abbrev pub number_local : Bases → ℕ → ℕ
number_local bases temporary = suc (suc bases.parameters + (temporary + temporary))

abbrev pub iterator_local : Bases → ℕ → ℕ
iterator_local bases iterator = suc bases.parameters + (bases.temporaries + bases.temporaries) + iterator

abbrev pub array_local : Bases → ℕ → ℕ
array_local bases array = suc bases.parameters + (bases.temporaries + bases.temporaries) + bases.iterators + array

abbrev pub kind_type : Kind → ValType
kind_type Boxed = I32
kind_type Unboxed = I64
kind_type ArrayKind = I32

abbrev pub temporary_types : ℕ → List ValType
temporary_types zero = []
temporary_types (suc count) = I32 ∷ (I64 ∷ temporary_types count)

abbrev pub handle_types : ℕ → List ValType
handle_types zero = []
handle_types (suc count) = I32 ∷ handle_types count

abbrev pub local_types : Bases → List ValType
local_types bases = I64 ∷ (temporary_types bases.temporaries ++ (handle_types bases.iterators ++ handle_types bases.arrays))

-- Temporaries: of code whose value goes into the first of them.

-- a product is kept beside its factors
abbrev pub calculated_room : Arithmetic → ℕ
calculated_room Times = 3
calculated_room operator = 2

abbrev mutual
  pub room : Code → ℕ
  room (Do (Inline operator) operands) = max (calculated_room operator) (rooms operands)
  room (Do operation operands) = max 1 (rooms operands)
  room (Over what operands) = max 1 (rooms operands)
  room (Compare op left right) = max (room left) (suc (room right))
  room (Call function operands) = max 1 (rooms operands)
  room Ask = 2
  room (AskLine store) = suc (suc (room store))
  room (FileLine file store) = max (room file) (suc (suc (room store)))
  room (Replace all operands store) = max (max 3 (rooms operands)) (suc (suc (room store)))
  room (Number number) = 1
  room (Text text) = 1
  room Unset = 1
  room (Get slot) = 1
  room (Set slot value) = room value
  room (Array array) = 1
  room (IsOpen item) = 1
  room (Choose wanted test so otherwise) = max (room test) (max (room so) (room otherwise))
  room (Seq first second) = max (room first) (room second)
  room (Let value rest) = max (room value) (suc (room rest))
  room (Bound moves place) = 1

  pub rooms : Codes → ℕ
  rooms End = 0
  rooms (At code operands) = max (room code) (suc (rooms operands))
  rooms (Fixed number operands) = rooms operands
  rooms (Fresh operands) = rooms operands

abbrev mutual
  pub step_room : Step → ℕ
  step_room (Eval code) = room code
  step_room (Block steps) = steps_room steps
  step_room (If test so otherwise) = max (room test) (max (step_room so) (step_room otherwise))
  step_room (Loop first test body last) = max (room test) (max (step_room body) (step_room last))
  step_room (Each array store body) = max (suc (room store)) (step_room body)
  step_room Break = 0
  step_room Continue = 0
  step_room Next = 0
  step_room Exit = 0
  step_room (ExitWith code) = room code
  step_room (Return code) = room code
  step_room (Mark item opens) = 0

  pub steps_room : Steps → ℕ
  steps_room NoStep = 0
  steps_room (Then step steps) = max (step_room step) (steps_room steps)

-- Arrays that are made for calls: of calls that are not done yet.

abbrev pub made_in : Codes → ℕ
made_in End = 0
made_in (At code operands) = made_in operands
made_in (Fixed number operands) = made_in operands
made_in (Fresh operands) = suc (made_in operands)

abbrev mutual
  pub arrays_in : Code → ℕ
  arrays_in (Do operation operands) = arrays_among operands
  arrays_in (Over what operands) = arrays_among operands
  arrays_in (Compare op left right) = max (arrays_in left) (arrays_in right)
  arrays_in (Call function operands) = arrays_among operands
  arrays_in Ask = 0
  arrays_in (AskLine store) = arrays_in store
  arrays_in (FileLine file store) = max (arrays_in file) (arrays_in store)
  arrays_in (Replace all operands store) = max (arrays_among operands) (arrays_in store)
  arrays_in (Number number) = 0
  arrays_in (Text text) = 0
  arrays_in Unset = 0
  arrays_in (Get slot) = 0
  arrays_in (Set slot value) = arrays_in value
  arrays_in (Array array) = 0
  arrays_in (IsOpen item) = 0
  arrays_in (Choose wanted test so otherwise) = max (arrays_in test) (max (arrays_in so) (arrays_in otherwise))
  arrays_in (Seq first second) = max (arrays_in first) (arrays_in second)
  arrays_in (Let value rest) = max (arrays_in value) (arrays_in rest)
  arrays_in (Bound moves place) = 0

  pub arrays_among : Codes → ℕ
  arrays_among End = 0
  arrays_among (At code operands) = max (arrays_in code) (arrays_among operands)
  arrays_among (Fixed number operands) = arrays_among operands
  arrays_among (Fresh operands) = suc (arrays_among operands)

abbrev mutual
  pub step_arrays : Step → ℕ
  step_arrays (Eval code) = arrays_in code
  step_arrays (Block steps) = steps_arrays steps
  step_arrays (If test so otherwise) = max (arrays_in test) (max (step_arrays so) (step_arrays otherwise))
  step_arrays (Loop first test body last) = max (arrays_in test) (max (step_arrays body) (step_arrays last))
  step_arrays (Each array store body) = max (arrays_in store) (step_arrays body)
  step_arrays Break = 0
  step_arrays Continue = 0
  step_arrays Next = 0
  step_arrays Exit = 0
  step_arrays (ExitWith code) = arrays_in code
  step_arrays (Return code) = arrays_in code
  step_arrays (Mark item opens) = 0

  pub steps_arrays : Steps → ℕ
  steps_arrays NoStep = 0
  steps_arrays (Then step steps) = max (step_arrays step) (steps_arrays steps)

-- Iterators: of loops inside one another.

abbrev mutual
  pub step_iterators : Step → ℕ
  step_iterators (Block steps) = steps_iterators steps
  step_iterators (If test so otherwise) = max (step_iterators so) (step_iterators otherwise)
  step_iterators (Loop first test body last) = max (step_iterators body) (step_iterators last)
  step_iterators (Each array store body) = suc (step_iterators body)
  step_iterators (Eval code) = 0
  step_iterators Break = 0
  step_iterators Continue = 0
  step_iterators Next = 0
  step_iterators Exit = 0
  step_iterators (ExitWith code) = 0
  step_iterators (Return code) = 0
  step_iterators (Mark item opens) = 0

  pub steps_iterators : Steps → ℕ
  steps_iterators NoStep = 0
  steps_iterators (Then step steps) = max (step_iterators step) (steps_iterators steps)

abbrev pub bases_for : List Kind → Steps → Bases
bases_for kinds body = record { parameters = length kinds; temporaries = steps_room body; iterators = steps_iterators body; arrays = steps_arrays body }
