-- Typed rows: what arguments and answers are on plain values. No meaning of a primitive ever sees an argument of another sort.
use Rattle.std.specs.Prelude.{ℕ, Bool, true, false, List, [], ◌∷◌, Option, Result}
use Rattle.awk_values.specs.declared.fault.Fault.{Fault}
use Rattle.awk_values.specs.declared.value.Value.{Value as AnyValue}
use Rattle.sem_primitives.specs.Numbers.{Number as AnyNumber}
use Rattle.sem_primitives.specs.Constants.{InConstant}
use Rattle.sem_primitives.specs.declared.sorts.Sort.{Sort}
use Rattle.sem_primitives.specs.declared.sorts.Sort.TheVariants.{Value, Number, Array, Iterator}
use Rattle.sem_primitives.specs.declared.sorts.Argument.{Argument}
use Rattle.sem_primitives.specs.declared.sorts.Argument.TheVariants as argument
use Rattle.sem_primitives.specs.declared.sorts.Answer.{Answer}
use Rattle.sem_primitives.specs.declared.sorts.Answer.TheVariants as answer
use Rattle.sem_primitives.specs.declared.answers.InputAnswer.{InputAnswer}
use Rattle.sem_primitives.specs.declared.answers.AssignAnswer.{AssignAnswer}
use Rattle.sem_primitives.specs.declared.answers.StreamAnswer.{StreamAnswer}

-- an array and an iterator are their numbers in the shared state
abbrev pub In : Sort → Type 0
In Value = AnyValue
In Number = AnyNumber
In Array = ℕ
In Iterator = ℕ

-- a text in memory is the text
abbrev pub InArgument : Argument → Type 0
InArgument (argument.Of sort) = In sort
InArgument (argument.Constant c) = InConstant c
InArgument argument.Place = List ℕ

-- arguments, in order
abbrev pub Row : List Argument → Type 0
Row [] = Unit {0}
Row (a ∷ rest) = InArgument a × Row rest

abbrev pub InAnswer : Answer → Type 0
InAnswer answer.Nothing = Unit {0}
InAnswer (answer.Of sort) = In sort
InAnswer answer.Truth = Bool
InAnswer answer.Done = Unit {0}
InAnswer answer.Input = InputAnswer
InAnswer answer.Assign = AssignAnswer
InAnswer answer.Stream = StreamAnswer
InAnswer answer.ValueOrEnd = Option AnyValue
InAnswer answer.Name = ℕ

-- an answer, or a fault where there may be one
abbrev pub OrFault : Bool → Type 0 → Type 0
OrFault true A = Result A Fault
OrFault false A = A
