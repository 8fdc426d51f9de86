-- The word for a constant, by cases. What a word says, Constants has; each constant is what its word says.
use Rattle.std.specs.Prelude.{ℕ, Bool, true, false}
use Rattle.awk_values.specs.Faults.{fault_number}
use Rattle.awk_values.specs.declared.comparison.CompareOp.{CompareOp}
use Rattle.awk_values.specs.declared.comparison.CompareOp.TheVariants.{Less, LessOrEqual, Equal, NotEqual, Greater, GreaterOrEqual}
use Rattle.sem_primitives.specs.declared.sorts.Constant.{Constant}
use Rattle.sem_primitives.specs.declared.sorts.Constant.TheVariants as constant
use Rattle.sem_primitives.specs.declared.constants.Destination.{Destination}
use Rattle.sem_primitives.specs.declared.constants.Destination.TheVariants.{Standard, Emptied, Appended}
use Rattle.sem_primitives.specs.declared.constants.NameKind.{NameKind}
use Rattle.sem_primitives.specs.declared.constants.NameKind.TheVariants.{Scalar, ArrayOrFunction}
use Rattle.sem_primitives.specs.declared.constants.Special.{Special}
use Rattle.sem_primitives.specs.declared.constants.Special.TheVariants.{Argc, Convfmt, Filename, Fnr, Fs, Nf, Nr, Ofmt, Ofs, Ors, Rlength, Rs, Rstart, Subsep}
use Rattle.sem_primitives.specs.Constants.{InConstant}

abbrev pub special_number : Special → ℕ
special_number Argc = 0
special_number Convfmt = 1
special_number Filename = 2
special_number Fnr = 3
special_number Fs = 4
special_number Nf = 5
special_number Nr = 6
special_number Ofmt = 7
special_number Ofs = 8
special_number Ors = 9
special_number Rlength = 10
special_number Rs = 11
special_number Rstart = 12
special_number Subsep = 13

abbrev pub comparison_number : CompareOp → ℕ
comparison_number Less = 0
comparison_number LessOrEqual = 1
comparison_number Equal = 2
comparison_number NotEqual = 3
comparison_number Greater = 4
comparison_number GreaterOrEqual = 5

abbrev pub flag_number : Bool → ℕ
flag_number false = 0
flag_number true = 1

abbrev pub destination_number : Destination → ℕ
destination_number Standard = 0
destination_number Emptied = 1
destination_number Appended = 2

abbrev pub kind_number : NameKind → ℕ
kind_number Scalar = 0
kind_number ArrayOrFunction = 1

-- the word for it
abbrev pub constant_number : (c : Constant) → InConstant c → ℕ
constant_number constant.Comparison x = comparison_number x
constant_number constant.Special x = special_number x
constant_number constant.Flag x = flag_number x
constant_number constant.Fault x = fault_number x
constant_number constant.Destination x = destination_number x
constant_number constant.NameKind x = kind_number x
constant_number constant.Count n = n
