use Rattle.std.proofs.Common.{◌≡◌, ◌++◌}
use Rattle.script_check.specs.Layout.{collected, view_text}
use Rattle.script_check.specs.Refused.{alone_found}
use Rattle.script_check.specs.Remarks.{view_findings}
use Rattle.script_check.proofs.refused.push_alone.Given as goal

abbrev pub invariant-loop-number : goal.invariant-loop-number
invariant-loop-number l = view_findings l.out.items ≡ view_findings l.initial.out.items ++ collected (alone_found (view_text l.text)) l.number
