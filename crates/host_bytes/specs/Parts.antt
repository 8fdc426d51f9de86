-- A part of a text by places (POSIX.1-2017 awk, "String Functions", substr).
use Rattle.std.specs.Prelude.{ℕ, ◌&&◌, Bool, true, List, Option, Some, None, ℤ, pos, ◌+ℤ◌, int_le, int_lt}
use Rattle.sem_primitives.specs.TextMeaning.{chosen}

-- whether a place lies before m + n, where there is an n
abbrev pub is_before_end : ℤ → Option ℤ → ℕ → Bool
is_before_end m None p = true
is_before_end m (Some n) p = int_lt (pos p) (m +ℤ n)

-- a place from m on, and before m + n
abbrev pub is_in_part : ℤ → Option ℤ → ℕ → Bool
is_in_part m None p = int_le m (pos p)
is_in_part m (Some n) p = int_le m (pos p) && int_lt (pos p) (m +ℤ n)

abbrev pub part : List ℕ → ℤ → Option ℤ → List ℕ
part text m n = chosen (λ p. is_in_part m n p) 1 text
