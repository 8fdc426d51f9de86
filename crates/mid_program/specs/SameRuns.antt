-- Programs that do the same.
use Rattle.std.specs.Prelude.{◌≡◌, ℕ}
use Rattle.mid_program.specs.Mid.{Program}
use Rattle.mid_program.specs.MidMeaning.{mid_run_in}
use Rattle.sem_scripts.specs.ScriptRun.{Setting}

-- the same ends, faults and outputs, at each job, input, outside and number of turns, however deeply calls may be nested
abbrev pub SameRuns : Program → Program → Type 0
SameRuns p q = (setting : Setting) (turns : ℕ) → mid_run_in p setting turns ≡ mid_run_in q setting turns
