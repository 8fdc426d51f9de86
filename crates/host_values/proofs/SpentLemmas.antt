-- What is held under the handles that words named.
use Rattle.std.proofs.Common.{◌≡◌, ℤ, List, [], ◌∷◌, Option, Some, None, Result, Ok, Err, refl, subst, sym}
use Rattle.std.specs.Int.{w32, cast_signed}
use Rattle.std.specs.FinMap as map
use Rattle.awk_values.specs.declared.value.Value.{Value}
use Rattle.wasm_store.specs.declared.trap.TrapKind.{TrapKind}
use Rattle.wasm_store.specs.declared.word.Word.{Word}
use Rattle.wasm_store.specs.declared.word.Word.TheVariants.{I32, I64}
use Rattle.host_step.specs.Arguments.{and_then, no_more}
use Rattle.host_values.specs.Evaluations.{Values}
use Rattle.host_values.specs.Fronts.{found, handle_front}
use Rattle.host_values.specs.Singles.{only_by, only_end, only_handle}
use Rattle.host_values.specs.Forms.{Arrays}
use Rattle.host_values.specs.Reads.{array_and_two, array_and_value, but_value, number_front, two_handles}

same_ok : {A : Type 0} (x y : A) → ◌≡◌ {A = Result A TrapKind} (Ok x) (Ok y) → x ≡ y
same_ok x y e = cc

found_held : (values : Values) (q : ℤ) (rest : List Word) (o : Option Value) (x : ℤ × Value × List Word) → map.get values q ≡ o → found q o rest ≡ Ok x → map.get values x.0 ≡ Some x.1
found_held values q rest None x g e = cc
found_held values q rest (Some v) x g e = subst (λ (y : ℤ × Value × List Word). map.get values y.0 ≡ Some y.1) (same_ok (q, v, rest) x e) g

front_held : (values : Values) (words : List Word) (x : ℤ × Value × List Word) → handle_front values words ≡ Ok x → map.get values x.0 ≡ Some x.1
front_held values [] x e = cc
front_held values (I64 n ∷ rest) x e = cc
front_held values (I32 n ∷ rest) x e = found_held values (cast_signed w32 n) rest (map.get values (cast_signed w32 n)) x refl e

end_held : (values : Values) (h : ℤ) (v : Value) (r : Result (Unit {0}) TrapKind) (x : ℤ × Value) → map.get values h ≡ Some v → only_end h v r ≡ Ok x → map.get values x.0 ≡ Some x.1
end_held values h v (Ok u) x g e = subst (λ (y : ℤ × Value). map.get values y.0 ≡ Some y.1) (same_ok (h, v) x e) g
end_held values h v (Err k) x g e = cc

only_held_by : (values : Values) (r : Result (ℤ × Value × List Word) TrapKind) (x : ℤ × Value) → ((y : ℤ × Value × List Word) → r ≡ Ok y → map.get values y.0 ≡ Some y.1) → only_by r ≡ Ok x → map.get values x.0 ≡ Some x.1
only_held_by values (Ok y) x g e = end_held values y.0 y.1 (no_more y.2) x (g y refl) e
only_held_by values (Err k) x g e = cc

only_held : (values : Values) (words : List Word) (x : ℤ × Value) → only_handle values words ≡ Ok x → map.get values x.0 ≡ Some x.1
only_held values words x e = only_held_by values (handle_front values words) x (front_held values words) e

abbrev SecondHeld : Values → ℤ × Value × ℤ × Value → Type 0
SecondHeld values x = map.get (map.remove values x.0) x.2 ≡ Some x.3

second_by : (values : Values) (h : ℤ) (v : Value) (r : Result (ℤ × Value) TrapKind) (x : ℤ × Value × ℤ × Value) → ((y : ℤ × Value) → r ≡ Ok y → map.get (map.remove values h) y.0 ≡ Some y.1)
    → and_then r (λ y. Ok (h, v, y.0, y.1)) ≡ Ok x → SecondHeld values x
second_by values h v (Ok y) x g e = subst (SecondHeld values) (same_ok (h, v, y.0, y.1) x e) (g y refl)
second_by values h v (Err k) x g e = cc

two_by : (values : Values) (r : Result (ℤ × Value × List Word) TrapKind) (x : ℤ × Value × ℤ × Value) → and_then r (λ y. and_then (only_handle (map.remove values y.0) y.2) (λ z. Ok (y.0, y.1, z.0, z.1))) ≡ Ok x → SecondHeld values x
two_by values (Ok y) x e = second_by values y.0 y.1 (only_handle (map.remove values y.0) y.2) x (only_held (map.remove values y.0) y.2) e
two_by values (Err k) x e = cc

abbrev BothHeld : Values → ℤ × ℤ × Value × ℤ × Value → Type 0
BothHeld values x = map.get (map.remove values x.1) x.3 ≡ Some x.4

behind_by : (values : Values) (a : ℤ) (r : Result (ℤ × Value × ℤ × Value) TrapKind) (x : ℤ × ℤ × Value × ℤ × Value) → ((y : ℤ × Value × ℤ × Value) → r ≡ Ok y → SecondHeld values y)
    → and_then r (λ y. Ok (a, y.0, y.1, y.2, y.3)) ≡ Ok x → BothHeld values x
behind_by values a (Ok y) x g e = subst (BothHeld values) (same_ok (a, y.0, y.1, y.2, y.3) x e) (g y refl)
behind_by values a (Err k) x g e = cc

array_by : (values : Values) (r : Result (ℤ × List Word) TrapKind) (x : ℤ × ℤ × Value × ℤ × Value) → and_then r (λ y. and_then (two_handles values y.1) (λ z. Ok (y.0, z.0, z.1, z.2, z.3))) ≡ Ok x → BothHeld values x
array_by values (Ok y) x e = behind_by values y.0 (two_handles values y.1) x (λ z is. two_by values (handle_front values y.1) z is) e
array_by values (Err k) x e = cc

abbrev FirstHeld : Values → ℤ × Value × ℤ × Value → Type 0
FirstHeld values x = map.get values x.0 ≡ Some x.1

first_by : (values : Values) (h : ℤ) (v : Value) (r : Result (ℤ × Value) TrapKind) (x : ℤ × Value × ℤ × Value) → map.get values h ≡ Some v → and_then r (λ y. Ok (h, v, y.0, y.1)) ≡ Ok x → FirstHeld values x
first_by values h v (Ok y) x g e = subst (FirstHeld values) (same_ok (h, v, y.0, y.1) x e) g
first_by values h v (Err k) x g e = cc

two_first : (values : Values) (r : Result (ℤ × Value × List Word) TrapKind) (x : ℤ × Value × ℤ × Value) → ((y : ℤ × Value × List Word) → r ≡ Ok y → map.get values y.0 ≡ Some y.1)
    → and_then r (λ y. and_then (only_handle (map.remove values y.0) y.2) (λ z. Ok (y.0, y.1, z.0, z.1))) ≡ Ok x → FirstHeld values x
two_first values (Ok y) x g e = first_by values y.0 y.1 (only_handle (map.remove values y.0) y.2) x (g y refl) e
two_first values (Err k) x g e = cc

abbrev OneHeld : Values → ℤ × ℤ × Value → Type 0
OneHeld values x = map.get values x.1 ≡ Some x.2

one_by : (values : Values) (a : ℤ) (r : Result (ℤ × Value) TrapKind) (x : ℤ × ℤ × Value) → ((y : ℤ × Value) → r ≡ Ok y → map.get values y.0 ≡ Some y.1)
    → and_then r (λ y. Ok (a, y.0, y.1)) ≡ Ok x → OneHeld values x
one_by values a (Ok y) x g e = subst (OneHeld values) (same_ok (a, y.0, y.1) x e) (g y refl)
one_by values a (Err k) x g e = cc

one_in : (values : Values) (r : Result (ℤ × List Word) TrapKind) (x : ℤ × ℤ × Value) → and_then r (λ y. and_then (only_handle values y.1) (λ z. Ok (y.0, z.0, z.1))) ≡ Ok x → OneHeld values x
one_in values (Ok y) x e = one_by values y.0 (only_handle values y.1) x (only_held values y.1) e
one_in values (Err k) x e = cc

-- the value under the one handle
pub one_held : (arrays : Arrays) (values : Values) (words : List Word) (x : ℤ × ℤ × Value) → array_and_value arrays values words ≡ Ok x → OneHeld values x
one_held arrays values words x e = one_in values (number_front arrays words) x e

-- the values under both handles
pub two_held : (values : Values) (words : List Word) (x : ℤ × Value × ℤ × Value) → two_handles values words ≡ Ok x → FirstHeld values x × SecondHeld values x
two_held values words x e = (two_first values (handle_front values words) x (front_held values words) e, two_by values (handle_front values words) x e)

abbrev KeyHeld : Values → ℤ × ℤ × Value × ℤ × Value → Type 0
KeyHeld values x = map.get values x.1 ≡ Some x.2

key_by : (values : Values) (a : ℤ) (r : Result (ℤ × Value × ℤ × Value) TrapKind) (x : ℤ × ℤ × Value × ℤ × Value) → ((y : ℤ × Value × ℤ × Value) → r ≡ Ok y → FirstHeld values y)
    → and_then r (λ y. Ok (a, y.0, y.1, y.2, y.3)) ≡ Ok x → KeyHeld values x
key_by values a (Ok y) x g e = subst (KeyHeld values) (same_ok (a, y.0, y.1, y.2, y.3) x e) (g y refl)
key_by values a (Err k) x g e = cc

key_in : (values : Values) (r : Result (ℤ × List Word) TrapKind) (x : ℤ × ℤ × Value × ℤ × Value) → and_then r (λ y. and_then (two_handles values y.1) (λ z. Ok (y.0, z.0, z.1, z.2, z.3))) ≡ Ok x → KeyHeld values x
key_in values (Ok y) x e = key_by values y.0 (two_handles values y.1) x (λ z is. two_first values (handle_front values y.1) z (front_held values y.1) is) e
key_in values (Err k) x e = cc

-- the key under the first handle
pub key_held : (arrays : Arrays) (values : Values) (words : List Word) (x : ℤ × ℤ × Value × ℤ × Value) → array_and_two arrays values words ≡ Ok x → KeyHeld values x
key_held arrays values words x e = key_in values (number_front arrays words) x e

-- the value under the second handle
pub value_held : (arrays : Arrays) (values : Values) (words : List Word) (x : ℤ × ℤ × Value × ℤ × Value) → array_and_two arrays values words ≡ Ok x → BothHeld values x
value_held arrays values words x e = array_by values (number_front arrays words) x e

-- what the code read is all but that value
pub with_value : (r : Result (ℤ × ℤ × Value × ℤ × Value) TrapKind) (x : ℤ × ℤ × Value × ℤ) → Ok x ≡ but_value r → (w : Value) × (r ≡ Ok (x.0, x.1, x.2, x.3, w))
with_value (Ok y) x e = (y.4, subst (λ (z : ℤ × ℤ × Value × ℤ). ◌≡◌ {A = Result (ℤ × ℤ × Value × ℤ × Value) TrapKind} (Ok y) (Ok (z.0, z.1, z.2, z.3, y.4))) (same_ok _ _ (sym e)) refl)
with_value (Err k) x e = cc

pub unread : (r : Result (ℤ × ℤ × Value × ℤ × Value) TrapKind) (k : TrapKind) → Err k ≡ but_value r → r ≡ Err k
unread (Ok y) k e = cc
unread (Err j) k e = cc

pub same_some : (v w : Value) → ◌≡◌ {A = Option Value} (Some v) (Some w) → v ≡ w
same_some v w e = cc

pub apart_some : (w : Value) → ◌≡◌ {A = Option Value} None (Some w) → ⊥
apart_some w e = cc
