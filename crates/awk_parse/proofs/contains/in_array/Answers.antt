use Rattle.awk_grammar.specs.Trees.{HasList}
use Rattle.awk_grammar.specs.View.{view, views}
use Rattle.awk_parse.specs.Parsed.{is_read}
use Rattle.awk_parse.proofs.ParsedLemmas.{then, past, is_here}
use Rattle.awk_parse.proofs.contains.in_array.Goals as goal

pub returns : goal.returns
returns c = past _ c.expect.ensures (past _ c.expect-2.ensures (then (λ n. is_read (HasList (view c.args.first.tree.value) (views c.args.others.trees.items) n.0) n.1) c.name-array.ensures (is_here _ _ _ c.has_list.ensures)))
