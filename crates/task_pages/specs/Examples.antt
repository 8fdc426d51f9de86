-- What is printed and told, computed from the definitions.
use Rattle.std.specs.Prelude.{◌≡◌, [], ◌∷◌, Err, Ok, codes, refl}
use Rattle.std.specs.Fmt.{digits}
use Rattle.host_imports.specs.declared.import.Import.TheVariants.{Arg, Variadic}
use Rattle.host_imports.specs.declared.import.VariadicImport.TheVariants.{Print}
use Rattle.run_report.specs.EndTexts.{line_of}
use Rattle.run_report.specs.declared.compile_fault.CompileFault.TheVariants.{TooLarge}
use Rattle.run_report.specs.declared.end.Refusal.TheVariants.{Compile}
use Rattle.run_report.specs.declared.end.RunEnd.TheVariants.{Ended, OutOfSteps, Refused}
use Rattle.run_report.specs.declared.topic.ScriptTopic.TheVariants as scripts
use Rattle.run_report.specs.declared.topic.StatusTopic.TheVariants.{Own}
use Rattle.run_report.specs.declared.topic.Topic.TheVariants.{Script, Status}
use Rattle.task_pages.specs.declared.task_error.TaskError.TheVariants.{Unexplained}
use Rattle.script_check.specs.Page.{page_text}
use Rattle.task_pages.specs.Checked.{told_of}
use Rattle.task_pages.specs.Explained.{topic_text, topics_text}
use Rattle.task_pages.specs.Printed.{imports_text, told_text}

pub names_of_topics : topics_text (Script scripts.TooLarge ∷ Status Own ∷ []) ≡ codes "TooLarge\n0\n"
names_of_topics = refl

pub under_a_name : topic_text (Script scripts.NotWhole) ≡ codes "NotWhole: The script has a number that is not whole. The line follows the name.\n\n  $ awkwasm run 'BEGIN { x = 0.5 }'\n  awkwasm: NotWhole 1\n\nCount in smaller units, such as cents.\n"
under_a_name = refl

pub printing_alone : imports_text (Arg ∷ Variadic Print ∷ []) ≡ codes "arg\nprint\n\nreads nothing\nmay write to the standard output, and to any file by its name\n"
printing_alone = refl

pub no_import : imports_text [] ≡ codes "\nreads nothing\nwrites nothing\n"
no_import = refl

pub end_is_told : told_text (Ok OutOfSteps) ≡ codes "awkwasm: OutOfSteps\n"
unfolding line_of
end_is_told = refl

pub own_status_is_not_told : told_text (Ok (Ended 3)) ≡ []
own_status_is_not_told = refl

pub undone_is_told : told_text (Err Unexplained) ≡ codes "awkwasm: no such name; awkwasm explain lists the names\n"
undone_is_told = refl

-- a script that is too long
pub whole_is_refused : page_text (codes "prog.awk") (codes "BEGIN") (told_of [] (Refused (Compile TooLarge))) ≡ codes "prog.awk:1:1: error: TooLarge: the whole script is refused\nBEGIN\n^\n"
unfolding digits
whole_is_refused = refl

pub accepted_is_not_refused : page_text (codes "prog.awk") (codes "BEGIN") (told_of [] (Ended 0)) ≡ []
accepted_is_not_refused = refl
