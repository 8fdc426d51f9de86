use Rattle.std.proofs.Common.{◌≡◌, subst, arith}
use Rattle.awk_resolve.proofs.Waiting.{NoNumbers, no_first, no_next, no_size, no_numbers}
use Rattle.awk_resolve.proofs.closure.no_numbers.Goals as goal

pub loop-done-init : goal.loop-done-init
loop-done-init c = no_first c.new-lists.result c.new-lists.ensures.items

pub loop-done-preserved : goal.loop-done-preserved
loop-done-preserved c = no_next c.new.result c.new.ensures.items c.push.ensures.added c.loop-done.invariant

pub returns-clause-length : goal.returns-clause-length
returns-clause-length c =
    let all : c.loop-done._done ≡ c.args.count = omega arith in
    no_size c.loop-done.lists c.args.count c.into_vec.result (subst (NoNumbers c.loop-done.lists) all c.loop-done.invariant) c.into_vec.ensures.all

pub returns-clause-empty : goal.returns-clause-empty
returns-clause-empty c =
    let all : c.loop-done._done ≡ c.args.count = omega arith in
    no_numbers c.loop-done.lists c.args.count c.into_vec.result (subst (NoNumbers c.loop-done.lists) all c.loop-done.invariant) c.into_vec.ensures.all
