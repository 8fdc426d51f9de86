-- Each primitive on small arguments, computed.
use Rattle.std.specs.Prelude.{◌≡◌, ◌^◌, ◌++◌, length, nat_le, if◌then◌else◌, [], ◌∷◌, codes, true, Some, None, Option, Result, Ok, Err, ℕ, pos, neg_ℤ, refl}
use Rattle.awk_text.specs.Reading.{numeral_at, sign_at, fraction_at, exponent_at}
use Rattle.awk_text.specs.Number.{numerator, denominator}
use Rattle.awk_values.specs.Operators.{Outcome}
use Rattle.awk_values.specs.declared.comparison.CompareOp.TheVariants.{Less}
use Rattle.awk_values.specs.declared.fault.Fault.{Fault}
use Rattle.awk_values.specs.declared.fault.Fault.TheVariants.{DivisionByZero, Fraction, NextOutside, Range, TextLimit, WriteFailed}
use Rattle.std.proofs.Common.{ap}
use Rattle.awk_values.specs.Values.{text_of_value}
use Rattle.awk_values.specs.declared.value.Value.{Value}
use Rattle.awk_values.specs.declared.value.Value.TheVariants as value
use Rattle.world_core.specs.WorldState.{Standard, absent, puts, replaced}
use Rattle.sem_primitives.specs.Numbers.{Number}
use Rattle.sem_primitives.specs.SharedState.{Shared, shared_after}
use Rattle.sem_primitives.specs.Table.{meaning, listed_meaning}
use Rattle.sem_primitives.specs.declared.table.Primitive.TheVariants.{Num, Lit, Uninit, Dup, ToNum, IntOf, Truth, Compare, Concat, Pow, Fail}
use Rattle.sem_primitives.specs.declared.table.Listed.TheVariants.{Print}
use Rattle.sem_primitives.specs.declared.constants.Destination.TheVariants as destination
use Rattle.world_core.specs.declared.world.Ending.TheVariants.{End}
use Rattle.sem_primitives.specs.Jobs.{JobForm}
use Rattle.sem_primitives.specs.ClosedJobs.{shared_at_start}

-- before a script without operands and without input, where the standard output has this room
abbrev pub no_job : JobForm
no_job = record { operands = []; assigns = []; environment = [] }

abbrev pub at_start : Option ℕ → Shared
at_start room = shared_at_start no_job (record { rest = []; ending = End }) (replaced Standard (record absent { room = room }) (λ target. absent))

abbrev pub two : Number
two = record { number = pos 2; in_range = tt }

abbrev pub minus_three : Number
minus_three = record { number = neg_ℤ (pos 3); in_range = tt }

abbrev pub zero : Number
zero = record { number = pos 0; in_range = tt }

abbrev pub plain : Result Number Fault → Outcome
plain (Ok n) = Ok n.number
plain (Err fault) = Err fault

pub num_row : (meaning Num (two, tt) (at_start None)).answer ≡ value.Num (pos 2)
num_row = refl

pub lit_row : (meaning Lit (codes "ab", tt) (at_start None)).answer ≡ value.Text (codes "ab")
lit_row = refl

pub uninit_row : (meaning Uninit tt (at_start None)).answer ≡ value.Uninit
uninit_row = refl

pub dup_row : (meaning Dup (value.StrNum (codes "1"), tt) (at_start None)).answer ≡ value.StrNum (codes "1")
dup_row = refl

pub to_num_row : plain (meaning ToNum (value.Text (codes "3x"), tt) (at_start None)).answer ≡ Ok (pos 3)
unfolding numeral_at sign_at fraction_at exponent_at numerator denominator
to_num_row = refl

pub to_num_fault : plain (meaning ToNum (value.Text (codes "0.5"), tt) (at_start None)).answer ≡ Err Fraction
unfolding numeral_at sign_at fraction_at exponent_at numerator denominator
to_num_fault = refl

pub int_of_row : plain (meaning IntOf (value.Text (codes "-7.9"), tt) (at_start None)).answer ≡ Ok (neg_ℤ (pos 7))
unfolding numeral_at sign_at fraction_at exponent_at numerator denominator
int_of_row = refl

pub int_of_fault : plain (meaning IntOf (value.Text (codes "1e16"), tt) (at_start None)).answer ≡ Err Range
unfolding numeral_at sign_at fraction_at exponent_at numerator denominator
int_of_fault = refl

pub truth_row : (meaning Truth (value.Text (codes "0"), tt) (at_start None)).answer ≡ true
truth_row = refl

pub compare_row : (meaning Compare (Less, (value.Text (codes "10"), (value.Text (codes "9"), tt))) (at_start None)).answer ≡ Ok true
compare_row = refl

pub concat_row : (meaning Concat (value.Text (codes "a"), (value.StrNum (codes "-1"), tt)) (at_start None)).answer ≡ Ok (value.Text (codes "a-1"))
concat_row = refl

-- a text of 67,108,864 bytes is within the limit, and one byte more is not
pub concat_at_limit : (left right : Value) → length (text_of_value left ++ text_of_value right) ≡ 67108864 →
    (meaning Concat (left, (right, tt)) (at_start None)).answer ≡ Ok (value.Text (text_of_value left ++ text_of_value right))
concat_at_limit left right long = ap (λ n. if nat_le n (2 ^ 26) then Ok (value.Text (text_of_value left ++ text_of_value right)) else Err TextLimit) long

pub concat_past_limit : (left right : Value) → length (text_of_value left ++ text_of_value right) ≡ 67108865 →
    (meaning Concat (left, (right, tt)) (at_start None)).answer ≡ Err TextLimit
concat_past_limit left right long = ap (λ n. if nat_le n (2 ^ 26) then Ok (value.Text (text_of_value left ++ text_of_value right)) else Err TextLimit) long

pub power_row : plain (meaning Pow (minus_three, (two, tt)) (at_start None)).answer ≡ Ok (pos 9)
power_row = refl

pub power_fault : plain (meaning Pow (zero, (minus_three, tt)) (at_start None)).answer ≡ Err DivisionByZero
power_fault = refl

pub fail_row : (meaning Fail (NextOutside, tt) (at_start None)).answer ≡ Err NextOutside
fail_row = refl

pub print_row : (shared_after (at_start None)
    (listed_meaning (Print destination.Standard) (value.Text (codes "a") ∷ value.StrNum (codes "1") ∷ []) (at_start None))).output
    ≡ puts Standard (codes "a 1" ++ 10 ∷ [])
print_row = refl

pub print_fault : (listed_meaning (Print destination.Standard) (value.Text (codes "abc") ∷ []) (at_start (Some 2))).answer ≡ Err WriteFailed
print_fault = refl

pub print_prefix : (listed_meaning (Print destination.Standard) (value.Text (codes "abc") ∷ []) (at_start (Some 2))).added ≡ puts Standard (codes "ab")
print_prefix = refl
