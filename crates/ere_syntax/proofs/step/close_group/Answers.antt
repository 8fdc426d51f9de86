use Rattle.ere_syntax.proofs.Stepping.{close_deep, close_done}
use Rattle.ere_syntax.proofs.step.close_group.Goals as goal

pub returns-in-None-2 : goal.returns-in-None-2
returns-in-None-2 c = λ x ready e.
    (let finished = rw c.in-Some.is at c.in_ok-finish.ensures.same in
    let sized = rw c.in-Some.is at (c.in_ok-finish.ensures.sized ready.frame_sized) in
    close_deep x c.args.stack.now.items c.pop.new.self.items c.args.frame c.in-Some-pop.outer c.in-Some.part (record { ready = ready; finished = finished; popped = c.in-Some-pop.ensures.items }) sized e (c.in_ok-grouped-in-Some-pop.ensures.deep c.in-None-2.is))

pub returns-in_ok-put-in-Some-2 : goal.returns-in_ok-put-in-Some-2
returns-in_ok-put-in-Some-2 c = λ x ready e.
    (let finished = rw c.in-Some.is at c.in_ok-finish.ensures.same in
    let sized = rw c.in-Some.is at (c.in_ok-finish.ensures.sized ready.frame_sized) in
    let same = rw c.in-Some-2.is at c.in_ok-grouped-in-Some-pop.ensures.same in
    let group_sized = rw c.in-Some-2.is at (c.in_ok-grouped-in-Some-pop.ensures.sized sized) in
    close_done x c.args.stack.now.items c.pop.new.self.items c.args.frame c.in-Some-pop.outer c.in_ok-put-in-Some-2.field-0 c.in-Some.part c.in-Some-2.group (record { ready = ready; finished = finished; popped = c.in-Some-pop.ensures.items }) same group_sized e c.in_ok-put-in-Some-2.ensures.same c.in_ok-put-in-Some-2.ensures.sized)
