-- Which whole texts are numbers: digits with or without a point, at least one of them, then an exponent or none.
use Rattle.std.specs.Prelude.{ℕ, Bool, true, false, ◌&&◌, ◌||◌, ◌==◌, nat_le, if◌then◌else◌, List, [], ◌∷◌}
use Rattle.awk_text.specs.Bytes.{plus, minus, point, digit_zero, digit_nine, upper_e, lower_e}

abbrev pub is_digit : ℕ → Bool
is_digit c = nat_le digit_zero c && nat_le c digit_nine

-- each byte passes
abbrev pub every : (ℕ → Bool) → List ℕ → Bool
every p [] = true
every p (c ∷ cs) = if p c then every p cs else false

-- what stands after the digits at the front
abbrev pub after_digits : List ℕ → List ℕ
after_digits [] = []
after_digits (c ∷ cs) = if is_digit c then after_digits cs else c ∷ cs

-- one digit or more
abbrev pub are_digits : List ℕ → Bool
are_digits [] = false
are_digits (c ∷ cs) = is_digit c && every is_digit cs

-- + or -
abbrev pub is_sign : ℕ → Bool
is_sign c = (c == plus) || (c == minus)

-- digits after a sign or none
abbrev pub is_scale : List ℕ → Bool
is_scale [] = false
is_scale (c ∷ cs) = if is_sign c then are_digits cs else are_digits (c ∷ cs)

-- e or E
abbrev pub is_exponent_mark : ℕ → Bool
is_exponent_mark c = (c == lower_e) || (c == upper_e)

-- an exponent, or nothing
abbrev pub is_exponent : List ℕ → Bool
is_exponent [] = true
is_exponent (c ∷ cs) = is_exponent_mark c && is_scale cs

-- what may stand after the digits before the point: a point and digits or none, and an exponent or none
abbrev pub is_fraction : List ℕ → Bool
is_fraction [] = true
is_fraction (c ∷ cs) = if c == point then is_exponent (after_digits cs) else is_exponent (c ∷ cs)

abbrev pub begins_digit : List ℕ → Bool
begins_digit [] = false
begins_digit (c ∷ _) = is_digit c

abbrev pub is_number : List ℕ → Bool
is_number [] = false
is_number (c ∷ cs) = if is_digit c then is_fraction (after_digits cs) else if c == point then begins_digit cs && is_exponent (after_digits cs)
    else false
