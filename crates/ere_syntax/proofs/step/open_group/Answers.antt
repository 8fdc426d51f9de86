use Rattle.std.proofs.Common.{arith, length, ◌≤◌}
use Rattle.ere_syntax.proofs.Stepping.{open_deep, open_done}
use Rattle.ere_syntax.proofs.step.open_group.Goals as goal

pub returns-then-len : goal.returns-then-len
returns-then-len c = λ x ready e. (let many : 1000 ≤ length c.args.stack.now.items = omega (arith, c.len.ensures, c.if-len.true) in open_deep x c.args.stack.now.items c.args.frame e many)

pub returns : goal.returns
returns c = λ x ready e. open_done x c.args.stack.now.items c.push.new.items.items c.args.frame c.fresh.result ready e c.in_ok-push.ensures.items c.fresh.ensures.same c.fresh.ensures.sized
