-- Words say what they stand for.
use Rattle.std.proofs.Common.{◌≡◌, ◌^◌, ◌≤◌, ℤ, pos, negsuc, Bool, true, false, T, nat_le, Some, unsigned_abs, w64, refl, sym, ap, subst, ◌∙◌, arith}
use Rattle.std.proofs.lemmas.Int.{ints, to_z-of_z}
use Rattle.std.proofs.Math.Dec.{T_prop, leb→le}
use Rattle.std.specs.Int.{cast_signed}
use Rattle.std.specs.Prelude.{FitsSigned}
use Rattle.awk_values.specs.Faults.{fault_number}
use Rattle.awk_values.specs.declared.fault.Fault.{Fault}
use Rattle.awk_values.specs.declared.fault.Fault.TheVariants.{Range, Fraction, DivisionByZero, Inexact, FieldNumber, Format, BadEre, EreTooLarge, TextLimit, OpenInput, ReadFailed, OpenOutput, WriteFailed, TooManyStreams, NextOutside, BadAssignment}
use Rattle.awk_values.specs.declared.comparison.CompareOp.{CompareOp}
use Rattle.awk_values.specs.declared.comparison.CompareOp.TheVariants.{Less, LessOrEqual, Equal, NotEqual, Greater, GreaterOrEqual}
use Rattle.sem_primitives.specs.Numbers.{Number, number_by, number_of, number_word, number_of_word, faulted_word}
use Rattle.sem_primitives.specs.Constants.{InConstant, constant_at, fault_at}
use Rattle.sem_primitives.specs.ConstantPlaces.{comparison_at, special_at, flag_at, destination_at, kind_at}
use Rattle.sem_primitives.specs.ConstantNumbers.{constant_number, comparison_number, special_number, flag_number, destination_number, kind_number}
use Rattle.sem_primitives.specs.declared.sorts.Constant.{Constant}
use Rattle.sem_primitives.specs.declared.sorts.Constant.TheVariants as constant
use Rattle.sem_primitives.specs.declared.constants.Destination.{Destination}
use Rattle.sem_primitives.specs.declared.constants.Destination.TheVariants.{Standard, Emptied, Appended}
use Rattle.sem_primitives.specs.declared.constants.NameKind.{NameKind}
use Rattle.sem_primitives.specs.declared.constants.NameKind.TheVariants.{Scalar, ArrayOrFunction}
use Rattle.sem_primitives.specs.declared.constants.Special.{Special}
use Rattle.sem_primitives.specs.declared.constants.Special.TheVariants.{Argc, Convfmt, Filename, Fnr, Fs, Nf, Nr, Ofmt, Ofs, Ors, Rlength, Rs, Rstart, Subsep}

comparison_again : (x : CompareOp) → comparison_at (comparison_number x) ≡ Some x
comparison_again Less = refl
comparison_again LessOrEqual = refl
comparison_again Equal = refl
comparison_again NotEqual = refl
comparison_again Greater = refl
comparison_again GreaterOrEqual = refl

special_again : (x : Special) → special_at (special_number x) ≡ Some x
special_again Argc = refl
special_again Convfmt = refl
special_again Filename = refl
special_again Fnr = refl
special_again Fs = refl
special_again Nf = refl
special_again Nr = refl
special_again Ofmt = refl
special_again Ofs = refl
special_again Ors = refl
special_again Rlength = refl
special_again Rs = refl
special_again Rstart = refl
special_again Subsep = refl

flag_again : (x : Bool) → flag_at (flag_number x) ≡ Some x
flag_again false = refl
flag_again true = refl

fault_again : (x : Fault) → fault_at (fault_number x) ≡ Some x
fault_again Range = refl
fault_again Fraction = refl
fault_again DivisionByZero = refl
fault_again Inexact = refl
fault_again FieldNumber = refl
fault_again Format = refl
fault_again BadEre = refl
fault_again EreTooLarge = refl
fault_again TextLimit = refl
fault_again OpenInput = refl
fault_again ReadFailed = refl
fault_again OpenOutput = refl
fault_again WriteFailed = refl
fault_again TooManyStreams = refl
fault_again NextOutside = refl
fault_again BadAssignment = refl

destination_again : (x : Destination) → destination_at (destination_number x) ≡ Some x
destination_again Standard = refl
destination_again Emptied = refl
destination_again Appended = refl

kind_again : (x : NameKind) → kind_at (kind_number x) ≡ Some x
kind_again Scalar = refl
kind_again ArrayOrFunction = refl

pub constant_again : (c : Constant) (x : InConstant c) → constant_at c (constant_number c x) ≡ Some x
constant_again constant.Comparison x = comparison_again x
constant_again constant.Special x = special_again x
constant_again constant.Flag x = flag_again x
constant_again constant.Fault x = fault_again x
constant_again constant.Destination x = destination_again x
constant_again constant.NameKind x = kind_again x
constant_again constant.Count n = refl

-- a number that is in range is found again
number_again-by : (z : ℤ) (b : Bool) (e : nat_le (unsigned_abs z) (2 ^ 53) ≡ b) (in_range : T (nat_le (unsigned_abs z) (2 ^ 53))) → number_by z b e ≡ Some (record { number = z; in_range = in_range })
number_again-by z true e in_range = λ i. Some (record { number = z; in_range = T_prop (nat_le (unsigned_abs z) (2 ^ 53)) (subst T (sym e) tt) in_range i })
number_again-by z false e in_range = absurd (subst T e in_range)

pub number_again : (n : Number) → number_of n.number ≡ Some n
number_again n = number_again-by n.number (nat_le (unsigned_abs n.number) (2 ^ 53)) refl n.in_range

pub small : (n : Number) → unsigned_abs n.number ≤ 2 ^ 53
small n = leb→le (unsigned_abs n.number) (2 ^ 53) n.in_range

pub fits : (z : ℤ) → unsigned_abs z ≤ 2 ^ 53 → FitsSigned w64 z
fits (pos k) h = search (arith, ints)
fits (negsuc k) h = search (arith, ints)

pub word_again : (n : Number) → number_of_word (number_word n) ≡ Some n
word_again n = ap number_of (to_z-of_z w64 n.number (fits n.number (small n))) ∙ number_again n

pub word_no_fault : (n : Number) → number_word n ≡ faulted_word → ⊥
word_no_fault n e =
    let least : unsigned_abs n.number ≡ 2 ^ 63 = ap unsigned_abs (sym (to_z-of_z w64 n.number (fits n.number (small n))) ∙ ap (cast_signed w64) e) in
    absurd (omega (arith, least, small n))
