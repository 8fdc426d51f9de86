-- The names of the sixteen runtime errors.
use Rattle.std.specs.Prelude.{ℕ, List, codes}
use Rattle.awk_values.specs.declared.fault.Fault.{Fault}
use Rattle.awk_values.specs.declared.fault.Fault.TheVariants.{Range, Fraction, DivisionByZero, Inexact, FieldNumber, Format, BadEre, EreTooLarge, TextLimit, OpenInput, ReadFailed, OpenOutput, WriteFailed, TooManyStreams, NextOutside, BadAssignment}

abbrev pub fault_name : Fault → List ℕ
fault_name Range = codes "Range"
fault_name Fraction = codes "Fraction"
fault_name DivisionByZero = codes "DivisionByZero"
fault_name Inexact = codes "Inexact"
fault_name FieldNumber = codes "FieldNumber"
fault_name Format = codes "Format"
fault_name BadEre = codes "BadEre"
fault_name EreTooLarge = codes "EreTooLarge"
fault_name TextLimit = codes "TextLimit"
fault_name OpenInput = codes "OpenInput"
fault_name ReadFailed = codes "ReadFailed"
fault_name OpenOutput = codes "OpenOutput"
fault_name WriteFailed = codes "WriteFailed"
fault_name TooManyStreams = codes "TooManyStreams"
fault_name NextOutside = codes "NextOutside"
fault_name BadAssignment = codes "BadAssignment"
