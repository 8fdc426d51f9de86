use Rattle.script_check.specs.Layout.{view_text}
use Rattle.script_check.specs.Refused.{AreEres}
use Rattle.script_check.specs.Remarks.{view_findings}
use Rattle.script_check.proofs.refused.eres_of.Given as goal

abbrev pub invariant-loop-number : goal.invariant-loop-number
invariant-loop-number l = AreEres (view_text l.text) l.number (view_findings l.out.items)
