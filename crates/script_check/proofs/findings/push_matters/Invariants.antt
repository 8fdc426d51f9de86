use Rattle.std.proofs.Common.{◌≡◌, ◌++◌, ℕ}
use Rattle.script_check.specs.Findings.{matter_found, matter_in}
use Rattle.script_check.specs.Layout.{collected, view_text}
use Rattle.script_check.specs.Remarks.{view_findings}
use Rattle.std.specs.Prelude.{slice_get}
use Rattle.script_check.proofs.findings.push_matters.Given as goal

abbrev pub invariant-loop-at : goal.invariant-loop-at
invariant-loop-at l = view_findings l.out.items ≡ view_findings l.initial.out.items ++ collected (λ (i : ℕ). matter_found (view_text l.text) l.refusals i (matter_in (slice_get l.found i))) l.at
