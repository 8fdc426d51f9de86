-- Intervals as the code reads them: a count past 256 is kept as 256.
use Rattle.std.specs.Prelude.{ℕ, ◌+◌, ◌*◌, ◌-◌, Bool, false, min, if◌then◌else◌, Option, Some, None, List, [], ◌∷◌}
use Rattle.ere_syntax.specs.Bytes.{comma, digit_zero, close_brace}
use Rattle.ere_syntax.specs.Bracket.{starts}
use Rattle.ere_syntax.specs.Readers.{behind, digits_at}
use Rattle.ere_syntax.specs.Signs.{is_digit, counts_fit}

abbrev pub saturated : ℕ → List ℕ → ℕ
saturated n [] = n
saturated n (d ∷ ds) = saturated (min (n * 10 + (d - digit_zero)) 256) ds

abbrev pub begins_number : List ℕ → Bool
begins_number [] = false
begins_number (c ∷ cs) = is_digit c

pub record Counted : Type 0 where
  pub low : ℕ
  pub high : Option ℕ
  pub rest : List ℕ

abbrev pub counts_and : ℕ → Option ℕ → List ℕ → Counted
counts_and low high rest = record { low = low; high = high; rest = rest }

abbrev pub closing : ℕ → Option ℕ → List ℕ → Option Counted
closing low high ts = if starts close_brace ts then Some (counts_and low high (behind ts)) else None

abbrev pub upto : ℕ → List ℕ → Option Counted
upto low ts = if begins_number ts then closing low (Some (saturated 0 (digits_at ts).0)) (digits_at ts).1 else closing low None ts

abbrev pub counted_low : ℕ → List ℕ → Option Counted
counted_low low rest = if starts comma rest then upto low (behind rest) else closing low (Some low) rest

abbrev pub counted : List ℕ → Option Counted
counted ts = if begins_number ts then counted_low (saturated 0 (digits_at ts).0) (digits_at ts).1 else None

abbrev pub times_and : ℕ → Option ℕ → ℕ × Option ℕ
times_and low high = (low, high)

abbrev pub fitting : ℕ → Option ℕ → Option (ℕ × Option ℕ)
fitting low high = if counts_fit low high then Some (times_and low high) else None
