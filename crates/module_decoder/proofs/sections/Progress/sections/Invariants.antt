use Rattle.std.proofs.Common.{◌≡◌, ◌-◌}
use Rattle.module_decoder.specs.View.{view_progress}
use Rattle.module_decoder.specs.Reading.{sections_at}
use Rattle.module_decoder.proofs.sections.Progress.sections.Given as goal

abbrev pub invariant-loop : goal.invariant-loop
invariant-loop l = sections_at l.total (l.turns - l.counter) (view_progress l.self) l.rest ≡ sections_at l.total l.turns (view_progress l.fn.self) l.bytes
