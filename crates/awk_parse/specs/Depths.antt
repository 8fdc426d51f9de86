-- The depth of a tree as it is counted.
use Rattle.std.specs.Prelude.{ℕ, List, min}
use Rattle.awk_grammar.specs.Trees.{depth, depths}
use Rattle.awk_grammar.specs.View.{view, views}
use Rattle.awk_grammar.specs.declared.tree.Expr.{Expr}

-- depths past the greatest number of 64 bits are not told apart
abbrev pub capped : ℕ → ℕ
capped n = min n 18446744073709551615

abbrev pub tree_depth : Expr → ℕ
tree_depth e = depth (view e)

abbrev pub trees_depth : List Expr → ℕ
trees_depth es = depths (views es)
