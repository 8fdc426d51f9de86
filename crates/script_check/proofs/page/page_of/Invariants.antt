use Rattle.std.proofs.Common.{◌≡◌, ◌++◌, drop}
use Rattle.script_check.specs.Page.{page_text}
use Rattle.script_check.specs.Remarks.{view_findings}
use Rattle.script_check.proofs.page.page_of.Given as goal

abbrev pub invariant-loop-one : goal.invariant-loop-one
invariant-loop-one l = l.out.items ++ page_text l.file l.script (view_findings (drop l.one-index l.found)) ≡ page_text l.file l.script (view_findings l.found)
