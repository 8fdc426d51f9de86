-- The operators, over whole numbers without bound; the result is checked afterwards (POSIX.1-2017 awk, "Expressions in awk", in whole numbers).
use Rattle.std.specs.Prelude.{ℕ, suc, Bool, ◌==◌, nat_le, if◌then◌else◌, Result, Ok, Err, ℤ, pos, negsuc, neg_ℤ, ◌+ℤ◌, ◌*ℤ◌, unsigned_abs, int_div, int_rem}
use Rattle.std.specs.Int.{int_pow}
use Rattle.awk_text.specs.Number.{largest}
use Rattle.awk_values.specs.declared.fault.Fault.{Fault}
use Rattle.awk_values.specs.declared.fault.Fault.TheVariants.{DivisionByZero, Inexact, Range}

abbrev pub Outcome : Type 0
Outcome = Result ℤ Fault

abbrev pub is_zero : ℤ → Bool
is_zero z = unsigned_abs z == 0

-- a result is from -2^53 to 2^53
abbrev pub checked : ℤ → Outcome
checked z = if nat_le (unsigned_abs z) largest then Ok z else Err Range

abbrev pub sum : ℤ → ℤ → Outcome
sum a b = checked (a +ℤ b)

abbrev pub difference : ℤ → ℤ → Outcome
difference a b = checked (a +ℤ neg_ℤ b)

abbrev pub product : ℤ → ℤ → Outcome
product a b = checked (a *ℤ b)

abbrev pub unless_zero : ℤ → Outcome → Outcome
unless_zero b outcome = if is_zero b then Err DivisionByZero else outcome

-- a quotient is whole
abbrev pub quotient : ℤ → ℤ → Outcome
quotient a b = unless_zero b (if is_zero (int_rem a b) then Ok (int_div a b) else Err Inexact)

-- truncated towards 0
abbrev pub truncated_quotient : ℤ → ℤ → Outcome
truncated_quotient a b = unless_zero b (Ok (int_div a b))

-- of the sign of the first
abbrev pub remainder : ℤ → ℤ → Outcome
remainder a b = unless_zero b (Ok (int_rem a b))

-- one over a power of a: it is whole for 1 and -1 only
abbrev pub inverse_power : ℤ → ℕ → Outcome
inverse_power a e = unless_zero a (if unsigned_abs a == 1 then Ok (int_pow a e) else Err Inexact)

abbrev pub power : ℤ → ℤ → Outcome
power a (pos e) = checked (int_pow a e)
power a (negsuc e) = inverse_power a (suc e)
