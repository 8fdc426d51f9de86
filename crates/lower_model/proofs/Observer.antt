-- How a machine is watched: how many callers may wait, and what is noted where statements begin.
use Rattle.std.proofs.Common.{ℕ}
use Rattle.sem_scripts.specs.ScriptRun.{Setting}
use Rattle.lower_model.specs.Machine.{Notes}

pub record Observer : Type 0 where
  pub callers : ℕ
  pub notes : Notes

abbrev pub watched : Notes → Setting → Observer
watched notes s = record { callers = s.deepest; notes = notes }
