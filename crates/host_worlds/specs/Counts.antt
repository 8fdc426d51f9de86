-- Counting records.
use Rattle.std.specs.Prelude.{◌≡◌, ◌==◌, cond, List, Ok, Result, ℤ, pos}
use Rattle.awk_values.specs.Operators.{sum}
use Rattle.awk_values.specs.Values.{number_of_value}
use Rattle.awk_values.specs.declared.fault.Fault.{Fault}
use Rattle.awk_values.specs.declared.value.Value.{Value}
use Rattle.awk_values.specs.declared.value.Value.TheVariants.{Num}
use Rattle.sem_primitives.specs.ConstantNumbers.{special_number}
use Rattle.sem_primitives.specs.SharedState.{◌>>=◌}
use Rattle.sem_primitives.specs.declared.constants.Special.{Special}
use Rattle.host_texts.specs.States.{specials_of}

-- the count after the one that a value holds
abbrev pub count_after : Value → Result ℤ Fault
count_after v = number_of_value v >>= λ n. sum n (pos 1)

abbrev pub next_count : Value → Result Value Fault
next_count v = count_after v >>= λ n. Ok (Num n)

-- one of the special variables has the next count, and the others stay
abbrev pub IsCounted : Special → List Value → List Value → Type 0
IsCounted s old new = (value : Value) × (next_count (specials_of old s) ≡ Ok value)
    × (specials_of new ≡ (λ t. cond (special_number s == special_number t) value (specials_of old t)))
