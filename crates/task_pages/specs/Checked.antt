-- What is told of a script by `check`.
use Rattle.std.specs.Prelude.{ℕ, Bool, List, [], ◌∷◌, ◌++◌, codes, false, if◌then◌else◌, option_map, true, unwrap_or}
use Rattle.std.specs.List.{list_any}
use Rattle.run_report.specs.EndTexts.{end_words}
use Rattle.run_report.specs.Topics.{name_in}
use Rattle.run_report.specs.declared.end.RunEnd.{RunEnd}
use Rattle.run_report.specs.declared.end.RunEnd.TheVariants.{Ended}
use Rattle.script_check.specs.Remarks.{Found, error, view_findings}
use Rattle.script_check.specs.declared.finding.Finding.{Finding}
use Rattle.script_check.specs.declared.finding.Severity.{Severity}
use Rattle.script_check.specs.declared.finding.Severity.TheVariants.{Error}

abbrev pub is_grave : Severity → Bool
is_grave Error = true
is_grave _ = false

-- a finding that a script is refused for
abbrev pub is_error : Finding → Bool
is_error found = is_grave found.said.severity

abbrev pub has_error : List Finding → Bool
has_error found = list_any is_error found

-- the name in the line of an end; empty where there is no line
abbrev pub end_name : RunEnd → List ℕ
end_name e = unwrap_or (option_map name_in (end_words e)) []

-- that a script is refused as a whole
abbrev pub whole_refusal : RunEnd → Found
whole_refusal e = record { start = 0; size = 0; said = error (end_name e) [] (codes "the whole script is refused") }

-- what is told of a script that is refused so: what is found and, if that has no error, one more
abbrev pub with_error : List Finding → RunEnd → List Found
with_error found e = if has_error found then view_findings found else view_findings found ++ whole_refusal e ∷ []

-- what is told of a script by what is found in it and how its compilation ends
abbrev pub told_of : List Finding → RunEnd → List Found
told_of found (Ended status) = view_findings found
told_of found e = with_error found e
