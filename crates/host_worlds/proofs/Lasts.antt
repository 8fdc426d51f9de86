-- The last values of a list, and how many are wanted.
use Rattle.std.proofs.Common.{◌≡◌, ◌<◌, ◌≤◌, ◌-◌, ℕ, suc, take, drop, nat_le, Bool, true, false, List, [], ◌∷◌, length, get_or, refl, ap, ◌∙◌, arith}
use Rattle.std.specs.Prelude.{◌&&◌}
use Rattle.std.proofs.lemmas.Bool.Decides.{nat_tests}
use Rattle.std.proofs.lemmas.List.{length-drop, take_rest}
use Rattle.awk_values.specs.Values.{text_of_value}
use Rattle.awk_values.specs.declared.value.Value.{Value}
use Rattle.sem_primitives.specs.InTurn.{with_name}
use Rattle.sem_primitives.specs.OutputMeaning.{but_last, last_text, operands_of}
use Rattle.sem_primitives.specs.declared.constants.Destination.{Destination}
use Rattle.sem_primitives.specs.declared.constants.Destination.TheVariants.{Standard, Emptied, Appended}
use Rattle.host_step.specs.HostStep.{last_of}
use Rattle.host_worlds.specs.Lists.{enough}

less_twice : (a n : ℕ) → n ≤ a → a - (a - n) ≡ n
less_twice a n le = omega (arith, le)

pub length_last : (n : ℕ) (values : List Value) → n ≤ length values → length (last_of n values) ≡ n
length_last n values le = length-drop (length values - n) values ∙ less_twice (length values) n le

-- as a slice from there on
pub last_taken : (slice old : List Value) (size n : ℕ) → size ≡ length old → slice ≡ old → take (length slice - (size - n)) (drop (size - n) slice) ≡ last_of n old
last_taken slice old size n all same = take_rest slice (size - n) ∙ ap (λ k. drop (k - n) slice) all ∙ ap (λ xs. drop (length old - n) xs) same

both : (a b : Bool) → a ≡ true → b ≡ true → a && b ≡ true
both true true e f = refl
both true false e f = f
both false b e f = e

second : (a b : Bool) → b ≡ false → a && b ≡ false
second true b e = e
second false b e = refl

first : (a b : Bool) → a ≡ false → a && b ≡ false
first true b e = cc
first false b e = refl

name_more : (to : Destination) (a b : ℕ) → a ≤ b → with_name to a ≤ with_name to b
name_more Standard a b le = le
name_more Emptied a b le = omega (arith, le)
name_more Appended a b le = omega (arith, le)

name_less : (to : Destination) (a b : ℕ) → a < b → with_name to a < with_name to b
name_less Standard a b lt = lt
name_less Emptied a b lt = omega (arith, lt)
name_less Appended a b lt = omega (arith, lt)

pub suffices : (least count : ℕ) (to : Destination) (values : List Value) → with_name to count ≤ length values → least ≤ count → enough least values (count, to) ≡ true
suffices least count to values le some =
    both (nat_le (with_name to count) (length values)) (nat_le (with_name to least) (length (last_of (with_name to count) values))) (grind (arith, nat_tests, le))
    (ap (nat_le (with_name to least)) (length_last (with_name to count) values le) ∙ (let more = name_more to least count some in grind (arith, nat_tests, more)))

pub too_few : (least count : ℕ) (to : Destination) (values : List Value) → with_name to count ≤ length values → count < least → enough least values (count, to) ≡ false
too_few least count to values le few =
    second (nat_le (with_name to count) (length values)) (nat_le (with_name to least) (length (last_of (with_name to count) values)))
    (ap (nat_le (with_name to least)) (length_last (with_name to count) values le) ∙ (let less = name_less to count least few in grind (arith, nat_tests, less)))

pub too_many : (least count : ℕ) (to : Destination) (values : List Value) → length values < with_name to count → enough least values (count, to) ≡ false
too_many least count to values past = first (nat_le (with_name to count) (length values)) _ (grind (arith, nat_tests, past))

last_at : (values : List Value) (d : Value) → 1 ≤ length values → text_of_value (get_or values (length values - 1) d) ≡ last_text values
last_at [] d some = absurd (omega arith)
last_at (w ∷ []) d some = refl
last_at (w ∷ x ∷ rest) d some =
    ap (λ k. text_of_value (get_or (w ∷ x ∷ rest) k d)) (back (length rest))
    ∙ ap (λ k. text_of_value (get_or (x ∷ rest) k d)) (front (length rest))
    ∙ last_at (x ∷ rest) d (omega arith) where
      back : (n : ℕ) → suc (suc n) - 1 ≡ suc n
      back n = omega arith

      front : (n : ℕ) → n ≡ suc n - 1
      front n = omega arith

-- the last value
pub last_is : (values : List Value) (v : Value) → 1 ≤ length values → v ≡ get_or values (length values - 1) v → text_of_value v ≡ last_text values
last_is values v some is = ap text_of_value is ∙ last_at values v some

-- the others
pub but_last_is : (values : List Value) → take (length values - 1) values ≡ but_last values
but_last_is [] = refl
but_last_is (w ∷ []) = refl
but_last_is (w ∷ x ∷ rest) = ap (λ k. take k (w ∷ x ∷ rest)) (back (length rest)) ∙ ap (λ xs. w ∷ xs) (ap (λ k. take k (x ∷ rest)) (front (length rest)) ∙ but_last_is (x ∷ rest)) where
  back : (n : ℕ) → suc (suc n) - 1 ≡ suc n
  back n = omega arith

  front : (n : ℕ) → n ≡ suc n - 1
  front n = omega arith

length_but_last : (values : List Value) → 1 ≤ length values → suc (length (but_last values)) ≡ length values
length_but_last [] some = absurd (omega arith)
length_but_last (w ∷ []) some = refl
length_but_last (w ∷ x ∷ rest) some = ap suc (length_but_last (x ∷ rest) (omega arith))

file_operand : (values : List Value) → 2 ≤ length values → 1 ≤ length (but_last values)
file_operand values two = let one = length_but_last values (omega (arith, two)) in omega (arith, one, two)

-- where a format is wanted, it is among the operands
pub some_operand : (to : Destination) (values : List Value) → with_name to 1 ≤ length values → 1 ≤ length (operands_of to values)
some_operand Standard values some = some
some_operand Emptied values some = file_operand values some
some_operand Appended values some = file_operand values some
