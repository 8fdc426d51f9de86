-- Parameters that were read, and those after them.
use Rattle.std.specs.Prelude.{ℕ, List, ◌++◌, Ok}
use Rattle.awk_grammar.specs.Reading.{◌>>=◌}
use Rattle.awk_grammar.specs.ReadStmt.{Read}

-- names, and those that are read behind them
abbrev pub with_names : List (List ℕ) → Read (List (List ℕ)) → Read (List (List ℕ))
with_names front read = read >>= λ y. Ok (front ++ y.0, y.1)
