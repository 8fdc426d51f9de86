-- Folding: an operation on number constants is its number, unless it faults.
use Rattle.std.specs.Prelude.{map, Option, Some, None, Result, Ok, Err}
use Rattle.awk_values.specs.declared.fault.Fault.{Fault}
use Rattle.sem_primitives.specs.Numbers.{Number as AnyNumber, number_of, outcome_of}
use Rattle.sem_primitives.specs.ValueMeaning.{power_row}
use Rattle.sem_primitives.specs.declared.table.Primitive.TheVariants.{Pow}
use Rattle.mid_program.specs.declared.mid.Operation.{Operation}
use Rattle.mid_program.specs.declared.mid.Operation.TheVariants.{Host, Inline, AsNumber, FieldNumber}
use Rattle.mid_program.specs.Mid.{Slot, Code, Do, Number, Codes, End, At, Steps, Routine, Program}
use Rattle.mid_program.specs.MidMeaning.{arithmetic_of}
use Rattle.sem_scripts.specs.Steps.{field_checked}
use Rattle.mid_program.specs.Rewriting.{code_in, steps_in}

-- the number that a constant stands for
abbrev pub constant : Code → Option AnyNumber
constant (Number z) = number_of z
constant _ = None

abbrev pub unless_fault : Result AnyNumber Fault → Option AnyNumber
unless_fault (Ok n) = Some n
unless_fault (Err fault) = None

abbrev pub of_one : Operation → Option AnyNumber → Option AnyNumber
of_one AsNumber (Some n) = Some n
of_one FieldNumber (Some n) = unless_fault (field_checked n)
of_one _ _ = None

abbrev pub of_two : Operation → Option AnyNumber → Option AnyNumber → Option AnyNumber
of_two (Inline a) (Some m) (Some n) = unless_fault (outcome_of (arithmetic_of a m.number n.number))
of_two (Host Pow) (Some m) (Some n) = unless_fault (power_row m n)
of_two _ _ _ = None

-- the number of an operation on constants
abbrev pub value_of : Operation → Codes → Option AnyNumber
value_of o (At a End) = of_one o (constant a)
value_of o (At a (At b End)) = of_two o (constant a) (constant b)
value_of o _ = None

abbrev pub reduced_to : Option AnyNumber → Operation → Codes → Code
reduced_to (Some n) o es = Number n.number
reduced_to None o es = Do o es

abbrev pub reduced : Operation → Codes → Code
reduced o es = reduced_to (value_of o es) o es

-- names stay
abbrev pub same : Slot → Slot
same x = x

-- operands first, so that what they are reduced to counts
abbrev pub folded : Code → Code
folded e = code_in same reduced e

abbrev pub folded_steps : Steps → Steps
folded_steps ss = steps_in same reduced ss

abbrev pub folded_routine : Routine → Routine
folded_routine r = record r { body = folded_steps r.body }

abbrev pub fold : Program → Program
fold p = record p {
  routines = map folded_routine p.routines;
  begin = folded_steps p.begin;
  items = folded_steps p.items;
  end = folded_steps p.end;
}
