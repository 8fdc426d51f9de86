-- The last values of a list.
use Rattle.std.proofs.Common.{◌≡◌, ◌<◌, ◌≤◌, ◌-◌, ℕ, nat_le, Bool, true, false, List, length, refl, ap, ◌∙◌, arith}
use Rattle.std.specs.Prelude.{◌&&◌}
use Rattle.std.proofs.lemmas.Bool.Decides.{nat_tests}
use Rattle.std.proofs.lemmas.List.{length-drop}
use Rattle.awk_values.specs.declared.value.Value.{Value}
use Rattle.sem_primitives.specs.InTurn.{listed_in_turn}
use Rattle.sem_primitives.specs.declared.table.Listed.TheVariants.{Sprintf}
use Rattle.host_step.specs.HostStep.{last_of}

less_twice : (a n : ℕ) → n ≤ a → a - (a - n) ≡ n
less_twice a n le = omega (arith, le)

pub length_last : (n : ℕ) (values : List Value) → n ≤ length values → length (last_of n values) ≡ n
length_last n values le = length-drop (length values - n) values ∙ less_twice (length values) n le

both : (a b : Bool) → a ≡ true → b ≡ true → a && b ≡ true
both true true e f = refl
both true false e f = f
both false b e f = e

second : (a b : Bool) → b ≡ false → a && b ≡ false
second true b e = e
second false b e = refl

first : (a b : Bool) → a ≡ false → a && b ≡ false
first true b e = cc
first false b e = refl

pub enough : (n : ℕ) (values : List Value) → n ≤ length values → 1 ≤ n → (nat_le n (length values) && listed_in_turn Sprintf (last_of n values)) ≡ true
enough n values le some =
    both (nat_le n (length values)) (nat_le 1 (length (last_of n values))) (grind (arith, nat_tests, le)) (ap (nat_le 1) (length_last n values le) ∙ grind (arith, nat_tests, some))

pub no_format : (n : ℕ) (values : List Value) → n < 1 → (nat_le n (length values) && listed_in_turn Sprintf (last_of n values)) ≡ false
no_format n values none =
    second (nat_le n (length values)) (nat_le 1 (length (last_of n values))) (ap (nat_le 1) (length_last n values (omega (arith, none))) ∙ grind (arith, nat_tests, none))

pub too_many : (n : ℕ) (values : List Value) → length values < n → (nat_le n (length values) && listed_in_turn Sprintf (last_of n values)) ≡ false
too_many n values past = first (nat_le n (length values)) (nat_le 1 (length (last_of n values))) (grind (arith, nat_tests, past))
