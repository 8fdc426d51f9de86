-- The names of the program's own streams.
use Rattle.std.specs.Prelude.{ℕ, ◌==◌, List, Bool, codes}
use Rattle.std.specs.Cmp.Lexicographic.{pointwise}

abbrev pub is_input : List ℕ → Bool
is_input name = pointwise ◌==◌ name (codes "/dev/stdin")

abbrev pub is_output : List ℕ → Bool
is_output name = pointwise ◌==◌ name (codes "/dev/stdout")

abbrev pub is_errors : List ℕ → Bool
is_errors name = pointwise ◌==◌ name (codes "/dev/stderr")
