-- Constants and the numbers that they stand for.
use Rattle.std.proofs.Common.{◌≡◌, Bool, true, false, Option, Some, None, Result, Ok, Err, refl, ap, sym, ℤ}
use Rattle.std.specs.Prelude.{◌^◌, nat_le, unsigned_abs}
use Rattle.awk_values.specs.declared.fault.Fault.{Fault}
use Rattle.sem_primitives.specs.Numbers.{Number as AnyNumber, number_by, number_of}
use Rattle.mid_program.specs.Mid.{Code, Number}
use Rattle.folding.specs.Folding.{constant, unless_fault}

number_by_is : (z : ℤ) (b : Bool) (e : nat_le (unsigned_abs z) (2 ^ 53) ≡ b) (n : AnyNumber) → number_by z b e ≡ Some n → n.number ≡ z
number_by_is z true e n h = sym (ap within h)
  where
    within : Option AnyNumber → ℤ
    within (Some m) = m.number
    within None = z
number_by_is z false e n h = absurd cc

pub number_is : (z : ℤ) (n : AnyNumber) → number_of z ≡ Some n → n.number ≡ z
number_is z n h = number_by_is z (nat_le (unsigned_abs z) (2 ^ 53)) refl n h

pub constant_is : (e : Code) (n : AnyNumber) → constant e ≡ Some n → e ≡ Number n.number
constant_is (Number z) n h = ap Number (sym (number_is z n h))
constant_is _ n h = absurd cc

pub unless_is : (r : Result AnyNumber Fault) (n : AnyNumber) → unless_fault r ≡ Some n → r ≡ Ok n
unless_is (Ok m) n h = λ i. Ok (or_that (h i))
  where
    or_that : Option AnyNumber → AnyNumber
    or_that (Some k) = k
    or_that None = m
unless_is (Err fault) n h = absurd cc

pub some_is : (m n : AnyNumber) → Some m ≡ Some n → m ≡ n
some_is m n h = λ i. or_that (h i)
  where
    or_that : Option AnyNumber → AnyNumber
    or_that (Some k) = k
    or_that None = m
