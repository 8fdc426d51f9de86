use Rattle.std.proofs.Common.{◌<◌, arith, length}
use Rattle.ere_match.proofs.Marks.{holds_read}
use Rattle.ere_match.proofs.Ranks.{marks_on, marks_past}
use Rattle.ere_match.proofs.numbers.mark_numbers.Goals as goal
use Rattle.ere_match.proofs.numbers.mark_numbers.Goals.{in-Some, in-None}

pub loop-thread-preserved : goal.loop-thread-preserved
loop-thread-preserved c =
    let i = c.loop-thread.thread-index in
    elim c.match-thread.branch [
      | in-Some w ↦ (let room : w.in-Some.number < length c.loop-thread.used = omega (arith, c.requires i w.in-Some.number (holds_read c.args.set.now i w.in-Some.number c.loop-thread-test.true w.in-Some.is), c.loop-thread.auto.used) in
          marks_on c.args.set.now i w.in-Some.number c.loop-thread.used c.match-thread.used w.in-Some.is room w.used-is c.loop-thread.invariant)
      | in-None w ↦ marks_past c.args.set.now i c.loop-thread.used c.match-thread.used w.in-None.is w.used-is c.loop-thread.invariant
    ]

pub bounds-used-number : goal.bounds-used-number
bounds-used-number c =
    let i = c.loop-thread.thread-index in
    omega (arith, c.requires i c.in-Some.number (holds_read c.args.set.now i c.in-Some.number c.loop-thread-test.true c.in-Some.is), c.loop-thread.auto.used)
