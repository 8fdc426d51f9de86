-- What primitives on values mean.
use Rattle.std.specs.Prelude.{ℕ, nat_le, if◌then◌else◌, List, length, Result, Ok, Err}
use Rattle.awk_values.specs.Operators.{power}
use Rattle.awk_values.specs.Values.{number_of_value}
use Rattle.awk_values.specs.declared.fault.Fault.{Fault}
use Rattle.awk_values.specs.declared.fault.Fault.TheVariants.{TextLimit}
use Rattle.awk_values.specs.declared.value.Value.{Value}
use Rattle.awk_values.specs.declared.value.Value.TheVariants.{Text}
use Rattle.sem_primitives.specs.Limits.{most_text}
use Rattle.sem_primitives.specs.Numbers.{Number, outcome_of}

-- a text, if it is within the limit
abbrev pub within_limit : List ℕ → Result Value Fault
within_limit text = if nat_le (length text) most_text then Ok (Text text) else Err TextLimit

abbrev pub number_of_row : Value → Result Number Fault
number_of_row value = outcome_of (number_of_value value)

abbrev pub power_row : Number → Number → Result Number Fault
power_row base exponent = outcome_of (power base.number exponent.number)
