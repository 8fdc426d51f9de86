use Rattle.std.proofs.lemmas.Bool.Decides.{same_from_decides}
use Rattle.std.proofs.lemmas.Slice.Eq.{bytes_eq-Decides}
use Rattle.run_report.proofs.topic.is_named.Goals as goal

pub returns : goal.returns
returns c = rw (← c.name.ensures) (same_from_decides _ _ c.eq_ignore_ascii_case.ensures.test (bytes_eq-Decides _ _))
