-- What is found in a script by `check`, and printed.
use Rattle.std.specs.Prelude.{◌≡◌, ◌<◌, ◌≤◌, ℕ, List, [], Option, length}
use Rattle.std.specs.Io.KnownBytes.{Appends}
use Rattle.run_report.specs.declared.end.RunEnd.{RunEnd}
use Rattle.script_check.specs.Findings.{AreFound}
use Rattle.script_check.specs.Page.{page_text}
use Rattle.script_check.specs.Remarks.{Found, view_findings}
use Rattle.script_check.specs.declared.finding.Finding.{Finding}
use Rattle.script_code.specs.Coded.{most_script_bytes}
use Rattle.task_pages.specs.Checked.{told_of}

-- what is found in a script: nothing in one that is too long
pub record AreFoundIn (script : List ℕ) (found : List Found) : Type 0 where
  pub whole : length script ≤ most_script_bytes → AreFound script found
  pub long : most_script_bytes < length script → found ≡ []

-- It is printed: a writer's bytes grow by that page.
pub record PrintsFindings (name script : List ℕ) (old new : Option (List ℕ)) (e : RunEnd) : Type 0 where
  pub found : List Finding
  pub are : AreFoundIn script (view_findings found)
  pub printed : Appends old new (page_text name script (told_of found e))
