use Rattle.awk_grammar.specs.Trees.{Call, depths}
use Rattle.awk_grammar.specs.View.{views}
use Rattle.awk_grammar.proofs.Views.{view_call}
use Rattle.awk_parse.proofs.Lists.{same_depth}
use Rattle.awk_parse.proofs.node.call_of.Goals as goal

pub invariant_of-result : goal.invariant_of-result
invariant_of-result c =
    let trees = views c.args.arguments.trees.items in
    record { exact = same_depth (Call c.args.function.items trees) _ _ (view_call c.args.function c.args.arguments.trees) (c.above.ensures (depths trees) c.args.arguments.exact) }

pub returns : goal.returns
returns c = view_call c.args.function c.args.arguments.trees
