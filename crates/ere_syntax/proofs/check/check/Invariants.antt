use Rattle.std.proofs.Common.{◌≡◌, ◌≤◌, ◌+◌, length}
use Rattle.ere_syntax.specs.Reading.{is_some}
use Rattle.ere_syntax.specs.EreOf.{ere_of}
use Rattle.ere_syntax.proofs.Texts.{checked}
use Rattle.ere_syntax.proofs.check.check.Given as goal

abbrev pub invariant-loop-rest : goal.invariant-loop-rest
invariant-loop-rest l = record {
  same : checked l.groups l.last l.rest ≡ is_some (ere_of l.fn.text);
  few : l.groups + length l.rest ≤ length l.fn.text;
}

abbrev pub decreases-loop-rest : goal.decreases-loop-rest
decreases-loop-rest l = length l.rest
