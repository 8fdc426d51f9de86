use Rattle.awk_grammar.specs.Trees.{HasList, depth, depths}
use Rattle.awk_grammar.specs.View.{view, views}
use Rattle.awk_grammar.proofs.Views.{view_in_list}
use Rattle.awk_parse.proofs.Lists.{same_depth}
use Rattle.awk_parse.proofs.node.has_list.Goals as goal

pub invariant_of-result : goal.invariant_of-result
invariant_of-result c =
    let first = view c.args.first.tree.value in
    let others = views c.args.others.trees.items in
    record { exact = same_depth (HasList first others c.args.array.items) _ _ (view_in_list c.args.first.tree c.args.others.trees c.args.array) (c.above_both.ensures (depth first) (depths others) c.args.first.exact c.args.others.exact) }

pub returns : goal.returns
returns c = view_in_list c.args.first.tree c.args.others.trees c.args.array
