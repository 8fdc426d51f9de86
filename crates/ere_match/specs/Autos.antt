-- An automaton of an expression.
use Rattle.std.specs.Prelude.{◌≡◌, ℕ, List, slice_get, Some}
use Rattle.ere_syntax.specs.Tree.{Tree}
use Rattle.ere_syntax.specs.Matches.{Matches}
use Rattle.ere_match.specs.declared.automaton.Auto.{Auto}
use Rattle.ere_match.specs.declared.node.Node.TheVariants as nodes
use Rattle.ere_match.specs.Means.{Means}

-- the nodes of the automaton lead from its entry to an accepting node exactly where the expression matches
pub record IsAutoOf (auto : Auto) (t : Tree) : Type 0 where
  pub accept : ℕ
  pub accepts : slice_get auto.nodes.items accept ≡ Some nodes.Accept
  pub means : (text : List ℕ) → Means auto.nodes.items text (Matches t text) auto.entry accept
