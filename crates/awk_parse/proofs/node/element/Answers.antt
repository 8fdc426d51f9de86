use Rattle.awk_grammar.specs.Trees.{Index, depths}
use Rattle.awk_grammar.specs.View.{views}
use Rattle.awk_grammar.proofs.Views.{view_element}
use Rattle.awk_parse.proofs.Lists.{same_depth}
use Rattle.awk_parse.proofs.node.element.Goals as goal

pub invariant_of-result : goal.invariant_of-result
invariant_of-result c =
    let trees = views c.args.subscripts.trees.items in
    record { exact = same_depth (Index c.args.array.items trees) _ _ (view_element c.args.array c.args.subscripts.trees) (c.above.ensures (depths trees) c.args.subscripts.exact) }

pub returns : goal.returns
returns c = view_element c.args.array c.args.subscripts.trees
