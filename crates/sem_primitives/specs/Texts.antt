-- Small words on texts, and the numbers that count in them.
use Rattle.std.specs.Prelude.{ℕ, ◌==◌, ◌&&◌, ◌||◌, nat_le, Bool, true, false, if◌then◌else◌, List, [], ◌∷◌, length, Option, Some, None, Result, Ok, Err, pos}
use Rattle.std.specs.Cmp.Lexicographic.{pointwise}
use Rattle.awk_text.specs.Number as numbers
use Rattle.awk_values.specs.declared.fault.Fault.{Fault}
use Rattle.awk_values.specs.declared.fault.Fault.TheVariants.{TextLimit}
use Rattle.awk_values.specs.declared.value.Value.{Value}
use Rattle.awk_values.specs.declared.value.Value.TheVariants.{Num}
use Rattle.sem_primitives.specs.Limits.{most_text}
use Rattle.sem_primitives.specs.Numbers.{Number, number_of}

abbrev pub same_text : List ℕ → List ℕ → Bool
same_text a b = pointwise ◌==◌ a b

abbrev pub is_empty : {A : Type 0} → List A → Bool
is_empty [] = true
is_empty (x ∷ xs) = false

abbrev pub has : ℕ → List ℕ → Bool
has n [] = false
has n (m ∷ ms) = (n == m) || has n ms

-- one text begins another
abbrev pub begins_with : List ℕ → List ℕ → Bool
begins_with [] text = true
begins_with (c ∷ cs) [] = false
begins_with (c ∷ cs) (d ∷ ds) = (c == d) && begins_with cs ds

-- a text, if it is within the limit
abbrev pub limited : List ℕ → Result (List ℕ) Fault
limited text = if nat_le (length text) most_text then Ok text else Err TextLimit

abbrev pub largest : Number
largest = record { number = pos numbers.largest; in_range = tt }

abbrev pub or_largest : Option Number → Number
or_largest (Some n) = n
or_largest None = largest

-- a count: no text and no list is so long that it is out of range
abbrev pub counted : ℕ → Number
counted n = or_largest (number_of (pos n))

abbrev pub count_value : ℕ → Value
count_value n = Num (pos n)
