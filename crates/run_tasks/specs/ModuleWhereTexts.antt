-- What is told of where a module was: lines that begin with two spaces.
use Rattle.std.specs.Prelude.{ℕ, List, [], if◌then◌else◌}
use Rattle.run_report.specs.WhereTexts.{is_told, where_text}
use Rattle.run_report.specs.declared.end.RunEnd.{RunEnd}
use Rattle.run_modules.specs.declared.module_sights.ModuleWhereabouts.{ModuleWhereabouts}
use Rattle.run_modules.specs.declared.module_sights.ModuleWhereabouts.TheVariants.{Lined, Unlined}
use Rattle.task_pages.specs.UnlinedTexts.{unlined_text}

-- of a module with lines it is told where its script was
abbrev pub module_where_text : RunEnd → ModuleWhereabouts → List ℕ
module_where_text end (Lined found) = where_text end found
module_where_text end (Unlined function) = if is_told end then unlined_text function else []
