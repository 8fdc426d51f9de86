-- The reader's cases, each by itself.
use Rattle.std.specs.Prelude.{ℕ, Bool, true, List, Option, Some, None, Ok, if◌then◌else◌, ◌&&◌}
use Rattle.awk_grammar.specs.Token.{Token, Step}
use Rattle.awk_grammar.specs.Tree.{Mode, Whole, LValue, normal, fits}
use Rattle.awk_grammar.specs.Trees.{Tree, Trees, NoTree, Then, Has, HasList, Cond}
use Rattle.awk_grammar.specs.Reading.{◌>>=◌, Read, Reader, Link, paren_by, comma_at, close_at, in_at, name_at, colon_at, link_at, stops, step_at, fitting, posted, checked}
use Rattle.awk_grammar.specs.View.{view}
use Rattle.awk_parse.specs.declared.deep.Part.{Part}

abbrev pub paren_at : Reader → List Token → Read
paren_at expr ts = expr true Whole ts >>= λ x. paren_by expr x.0 x.1 (comma_at x.1)

-- the array after two subscripts or more
abbrev pub in_array_at : Tree → Trees → List Token → Read
in_array_at t us ts = close_at ts >>= λ vs. in_at vs >>= λ ws. name_at ws >>= λ n. Ok (HasList t us n.0, n.1)

-- the array after `in`
abbrev pub contained_at : Tree → List Token → Read
contained_at t ts = name_at ts >>= λ n. Ok (Has t n.0, n.1)

abbrev pub conditional_at : Reader → Bool → Tree → List Token → Read
conditional_at expr g t ts = expr g Whole ts >>= λ x. colon_at x.1 >>= λ us. expr g Whole us >>= λ y. Ok (Cond t x.0 y.0, y.1)

abbrev pub view_variable : Option Part → Option Tree
view_variable (Some p) = Some (view p.tree.value)
view_variable None = None

abbrev pub done : Tree → List Token → Read
done t ts = Ok (t, ts)

-- the step after an operand, where one may stand there
abbrev pub post_at : Mode → Tree → List Token → Option (Step × List Token)
post_at m t ts = if normal m && fits LValue t then step_at ts else None

-- an operand with the step after it, if they may stand there
abbrev pub fitted_at : ℕ → Mode → Tree × List Token → Read
fitted_at limit m x = fitting m (posted m x) >>= checked limit done

abbrev pub joining_by : ℕ → Tree → List Token → Option (Link × List Token) → Option (Link × List Token)
joining_by l t ts None = None
joining_by l t ts (Some o) = if stops l t ts o.0 then None else Some o

-- what joins a tree to the tokens, where that takes the tree as its left side
abbrev pub joining_at : Bool → ℕ → Tree → List Token → Option (Link × List Token)
joining_at g l t ts = joining_by l t ts (link_at g ts)

-- ---- lists

abbrev pub followed_by : Trees → Trees → Trees
followed_by NoTree us = us
followed_by (Then t ts) us = Then t (followed_by ts us)
