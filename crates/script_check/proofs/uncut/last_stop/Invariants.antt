use Rattle.std.proofs.Common.{◌≡◌, ◌≤◌, ◌<◌, ◌-◌, ℕ, true}
use Rattle.std.specs.Prelude.{slice_index}
use Rattle.script_check.specs.Uncut.{IsNotCut, may_stop, stop_count}
use Rattle.script_check.proofs.uncut.last_stop.Given as goal

abbrev pub invariant-loop-back : goal.invariant-loop-back
invariant-loop-back l =
    record {
      few : l.tries ≤ stop_count l.script l.fault l.to l.back;
      none : l.tries < 1000 → (k : ℕ) → l.to - l.back ≤ k → k < l.to → may_stop l.fault (slice_index l.script k) ≡ true → IsNotCut l.script k;
    }
