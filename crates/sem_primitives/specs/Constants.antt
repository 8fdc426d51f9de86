-- What constant arguments say, and what the words of 32 bits say that stand for it.
use Rattle.std.specs.Prelude.{ℕ, zero, suc, Bool, true, false, List, [], ◌∷◌, Option, Some, None, slice_get}
use Rattle.awk_values.specs.declared.fault.Fault.{Fault}
use Rattle.awk_values.specs.declared.fault.Fault.TheVariants.{Range, Fraction, DivisionByZero, Inexact, FieldNumber, Format, BadEre, EreTooLarge, TextLimit, OpenInput, ReadFailed, OpenOutput, WriteFailed, TooManyStreams, NextOutside, BadAssignment}
use Rattle.awk_values.specs.declared.comparison.CompareOp.{CompareOp}
use Rattle.awk_values.specs.declared.comparison.CompareOp.TheVariants.{Less, LessOrEqual, Equal, NotEqual, Greater, GreaterOrEqual}
use Rattle.sem_primitives.specs.declared.sorts.Constant.{Constant}
use Rattle.sem_primitives.specs.declared.sorts.Constant.TheVariants as constant
use Rattle.sem_primitives.specs.declared.constants.Destination.{Destination}
use Rattle.sem_primitives.specs.declared.constants.Destination.TheVariants.{Standard, Emptied, Appended}
use Rattle.sem_primitives.specs.declared.constants.NameKind.{NameKind}
use Rattle.sem_primitives.specs.declared.constants.NameKind.TheVariants.{Scalar, ArrayOrFunction}
use Rattle.sem_primitives.specs.declared.constants.Special.{Special}
use Rattle.sem_primitives.specs.declared.constants.Special.TheVariants.{Argc, Convfmt, Filename, Fnr, Fs, Nf, Nr, Ofmt, Ofs, Ors, Rlength, Rs, Rstart, Subsep}

-- in the order of their numbers
abbrev pub specials : List Special
specials = Argc ∷ Convfmt ∷ Filename ∷ Fnr ∷ Fs ∷ Nf ∷ Nr ∷ Ofmt ∷ Ofs ∷ Ors ∷ Rlength ∷ Rs ∷ Rstart ∷ Subsep ∷ []

-- in the order of their numbers
abbrev pub comparisons : List CompareOp
comparisons = Less ∷ LessOrEqual ∷ Equal ∷ NotEqual ∷ Greater ∷ GreaterOrEqual ∷ []

-- no and yes
abbrev pub flags : List Bool
flags = false ∷ true ∷ []

-- in the order of their numbers
abbrev pub destinations : List Destination
destinations = Standard ∷ Emptied ∷ Appended ∷ []

-- in the order of their numbers
abbrev pub kinds : List NameKind
kinds = Scalar ∷ ArrayOrFunction ∷ []

-- in the order of their numbers, from 1 on
abbrev pub faults : List Fault
faults = Range ∷ Fraction ∷ DivisionByZero ∷ Inexact ∷ FieldNumber ∷ Format ∷ BadEre ∷ EreTooLarge ∷ TextLimit ∷ OpenInput ∷ ReadFailed ∷ OpenOutput
    ∷ WriteFailed ∷ TooManyStreams ∷ NextOutside ∷ BadAssignment ∷ []

abbrev pub fault_at : ℕ → Option Fault
fault_at zero = None
fault_at (suc n) = slice_get faults n

-- what a constant argument is on plain values
abbrev pub InConstant : Constant → Type 0
InConstant constant.Comparison = CompareOp
InConstant constant.Special = Special
InConstant constant.Flag = Bool
InConstant constant.Fault = Fault
InConstant constant.Destination = Destination
InConstant constant.NameKind = NameKind
InConstant constant.Count = ℕ

-- what a word says, where it says anything
abbrev pub constant_at : (c : Constant) → ℕ → Option (InConstant c)
constant_at constant.Comparison word = slice_get comparisons word
constant_at constant.Special word = slice_get specials word
constant_at constant.Flag word = slice_get flags word
constant_at constant.Fault word = fault_at word
constant_at constant.Destination word = slice_get destinations word
constant_at constant.NameKind word = slice_get kinds word
constant_at constant.Count word = Some word
