use Rattle.awk_grammar.specs.Trees.{depth, depths}
use Rattle.awk_grammar.specs.View.{view, views}
use Rattle.awk_parse.proofs.Lists.{pushed, pushed_depth}
use Rattle.awk_parse.proofs.ParsedLemmas.{is_here}
use Rattle.awk_parse.proofs.node.with_one.Goals as goal

pub invariant_of-result-2 : goal.invariant_of-result-2
invariant_of-result-2 c =
    record { exact = pushed_depth _ c.args.list.trees.items c.args.next.tree _ c.in-Ok.ensures.items (c.deeper.ensures (depths (views c.args.list.trees.items)) (depth (view c.args.next.tree)) c.args.list.exact c.args.next.exact) }

pub returns : goal.returns
returns c = is_here _ _ _ (pushed _ c.args.list.trees.items c.args.next.tree c.in-Ok.ensures.items)
