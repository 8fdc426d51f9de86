use Rattle.std.proofs.Common.{◌≡◌, ◌≤◌, ◌-◌}
use Rattle.script_check.specs.Stopped.{innermost}
use Rattle.script_check.proofs.stopped.innermost.Given as goal

abbrev pub invariant-loop-back : goal.invariant-loop-back
invariant-loop-back l = record { few : l.closed ≤ l.back; rest : innermost l.tokens l.closed (l.end - l.back) ≡ innermost l.tokens 0 l.end }
