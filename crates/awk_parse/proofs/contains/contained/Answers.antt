use Rattle.awk_grammar.specs.Trees.{Has}
use Rattle.awk_grammar.specs.View.{view}
use Rattle.awk_parse.specs.Parsed.{is_read}
use Rattle.awk_parse.proofs.ParsedLemmas.{then, is_here}
use Rattle.awk_parse.proofs.contains.contained.Goals as goal

pub returns : goal.returns
returns c = then (λ n. is_read (Has (view c.args.left.tree.value) n.0) n.1) c.name-array.ensures (is_here _ _ _ c.has.ensures)
