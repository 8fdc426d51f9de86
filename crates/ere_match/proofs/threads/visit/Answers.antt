use Rattle.std.proofs.Common.{arith, ◌<◌, length}
use Rattle.ere_match.proofs.Marks.{visited, not_visited, holds_read}
use Rattle.ere_match.proofs.Steps.{node_is}
use Rattle.ere_match.proofs.threads.visit.Goals as goal

pub returns-in-Some : goal.returns-in-Some
returns-in-Some c = λ bound small.
    (let inside : c.args.id < length c.args.set.now = omega (arith, c.requires.within, c.requires.same_len) in
    let holds = holds_read c.args.set.now c.args.id c.in-Some.start inside c.in-Some.is in
    visited c.args.nodes.now c.args.first c.args.last bound c.args.id c.in-Some.start c.index-nodes-id.result c.args.set.now c.follow.new.set c.follow.result (node_is c.args.nodes.now c.args.id c.index-nodes-id.result c.requires.within c.index-nodes-id.is) holds (c.follow.ensures bound (small c.args.id c.in-Some.start holds)))

pub returns-in-None : goal.returns-in-None
returns-in-None c = λ bound small. not_visited c.args.nodes.now c.args.first c.args.last bound c.args.id c.args.set.now c.in-None.is
