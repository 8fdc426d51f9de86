-- How the longest number text at the front of a text is read, on whole lists.
use Rattle.std.specs.Prelude.{◌≡◌, ℕ, Bool, true, false, ◌&&◌, ◌||◌, ◌==◌, nat_le, if◌then◌else◌, Option, Some, None, List, [], ◌∷◌, length, take, drop, take_while}
use Rattle.awk_text.specs.Bytes.{tab, carriage_return, space, plus, minus, point, digit_zero, digit_nine, upper_e, lower_e}

abbrev pub is_space : ℕ → Bool
is_space c = (c == space) || (nat_le tab c && nat_le c carriage_return)

abbrev pub is_digit : ℕ → Bool
is_digit c = nat_le digit_zero c && nat_le c digit_nine

-- the parts of a number text that its value depends on
pub record Numeral : Type 0 where
  pub negative : Bool
  pub whole : List ℕ
  pub fraction : List ℕ
  pub exponent_negative : Bool
  pub exponent : List ℕ

-- how many of the first bytes pass
abbrev pub count_while : (ℕ → Bool) → List ℕ → ℕ
count_while p bytes = length (take_while p bytes)

-- the digits at the front, and what follows
abbrev pub digits_at : List ℕ → List ℕ × List ℕ
digits_at bytes = (take (count_while is_digit bytes) bytes, drop (count_while is_digit bytes) bytes)

-- whether a minus stands at the front, and what follows the sign if there is one
unfoldable pub sign_at : List ℕ → Bool × List ℕ
sign_at [] = (false, [])
sign_at (c ∷ cs) = if c == minus then (true, cs) else if c == plus then (false, cs) else (false, c ∷ cs)

-- the digits after a point, or none
unfoldable pub fraction_at : List ℕ → List ℕ × List ℕ
fraction_at [] = ([], [])
fraction_at (c ∷ cs) = if c == point then digits_at cs else ([], c ∷ cs)

-- sign, digits and what follows; nothing is taken where no digit follows the mark
unfoldable pub exponent_at : List ℕ → (Bool × List ℕ) × List ℕ
exponent_at [] = ((false, []), [])
exponent_at (c ∷ cs) =
    if (c == lower_e) || (c == upper_e)
    then (let sign = sign_at cs in let digits = digits_at sign.1 in
    if length digits.0 == 0 then ((false, []), c ∷ cs) else ((sign.0, digits.0), digits.1))
    else ((false, []), c ∷ cs)

unfoldable pub numeral_at : List ℕ → Option (Numeral × List ℕ)
numeral_at bytes =
    let sign = sign_at (drop (count_while is_space bytes) bytes) in
    let whole = digits_at sign.1 in
    let fraction = fraction_at whole.1 in
    let exponent = exponent_at fraction.1 in
    if (length whole.0 == 0) && (length fraction.0 == 0) then None
    else Some (record { negative = sign.0; whole = whole.0; fraction = fraction.0; exponent_negative = exponent.0.0; exponent = exponent.0.1 }, exponent.1)

-- each byte passes
abbrev pub AllPass : (ℕ → Bool) → List ℕ → Type 0
AllPass p [] = Unit {0}
AllPass p (c ∷ cs) = (p c ≡ true) × AllPass p cs

abbrev pub AreDigits : List ℕ → Type 0
AreDigits bytes = AllPass is_digit bytes
