use Rattle.awk_grammar.specs.Trees.{Apply, depths}
use Rattle.awk_grammar.specs.View.{views}
use Rattle.awk_grammar.proofs.Views.{view_apply}
use Rattle.awk_parse.proofs.Lists.{same_depth}
use Rattle.awk_parse.proofs.node.application.Goals as goal

pub invariant_of-result : goal.invariant_of-result
invariant_of-result c =
    let trees = views c.args.arguments.trees.items in
    record { exact = same_depth (Apply c.args.function trees) _ _ (view_apply c.args.function c.args.arguments.trees) (c.above.ensures (depths trees) c.args.arguments.exact) }

pub returns : goal.returns
returns c = view_apply c.args.function c.args.arguments.trees
