use Rattle.std.proofs.Common.{arith, ◌+◌, ◌<◌, length}
use Rattle.ere_match.proofs.Steps.{node_is, advanced_none, advanced_out, advanced_some}
use Rattle.ere_match.proofs.step.advance.Goals as goal

pub returns-in-None : goal.returns-in-None
returns-in-None c = advanced_out c.args.nodes.now c.args.byte c.args.id c.args.set.now c.args.next.now c.in-None.is

pub returns-in-None-target : goal.returns-in-None-target
returns-in-None-target c =
    advanced_none c.args.nodes.now c.args.id c.args.byte c.index-nodes-id.result c.args.set.now c.args.next.now (node_is c.args.nodes.now c.args.id c.index-nodes-id.result c.requires.node c.index-nodes-id.is) c.in-None-target.ensures

pub returns-in-Some-target : goal.returns-in-Some-target
returns-in-Some-target c =
    let inside : c.args.id < length c.args.set.now = omega (arith, c.requires.node, c.requires.same_len) in
    advanced_some c.args.nodes.now c.args.id c.args.byte c.in-Some-target.to c.in-Some.start (c.in-Some.start + 1) c.index-nodes-id.result c.args.set.now c.args.next.now c.mark.new.set c.mark.result c.requires.next_len
    (node_is c.args.nodes.now c.args.id c.index-nodes-id.result c.requires.node c.index-nodes-id.is) c.in-Some.is inside c.in-Some-target.ensures (c.mark.ensures (c.in-Some.start + 1) (omega arith))
