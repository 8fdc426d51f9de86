-- The bodies of functions, as the code has them.
use Rattle.std.specs.Prelude.{ℕ, zero, suc, List, [], ◌∷◌}
use Rattle.awk_grammar.specs.Trees.{Stmts, NoStmt}

-- the body of a function, by its number
abbrev pub body_in : List Stmts → ℕ → Stmts
body_in [] i = NoStmt
body_in (b ∷ bs) zero = b
body_in (b ∷ bs) (suc i) = body_in bs i
