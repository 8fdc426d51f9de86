-- The sixteen faults of a run: their numbers and their names.
use Rattle.std.specs.Prelude.{ℕ}
use Rattle.awk_values.specs.declared.fault.Fault.{Fault}
use Rattle.awk_values.specs.declared.fault.Fault.TheVariants.{Range, Fraction, DivisionByZero, Inexact, FieldNumber, Format, BadEre, EreTooLarge, TextLimit, OpenInput, ReadFailed, OpenOutput, WriteFailed, TooManyStreams, NextOutside, BadAssignment}

abbrev pub fault_number : Fault → ℕ
fault_number Range = 1
fault_number Fraction = 2
fault_number DivisionByZero = 3
fault_number Inexact = 4
fault_number FieldNumber = 5
fault_number Format = 6
fault_number BadEre = 7
fault_number EreTooLarge = 8
fault_number TextLimit = 9
fault_number OpenInput = 10
fault_number ReadFailed = 11
fault_number OpenOutput = 12
fault_number WriteFailed = 13
fault_number TooManyStreams = 14
fault_number NextOutside = 15
fault_number BadAssignment = 16
