use Rattle.std.proofs.Common.{◌≡◌, ◌∙◌, List, ap, subst, true}
use Rattle.std.specs.Prelude.{IfErr}
use Rattle.clap.specs.Words.{Text, takes}
use Rattle.command_line.specs.Line.{line_app}
use Rattle.command_line.specs.Request.{texts}
use Rattle.command_line.specs.Spelling.{spelled_line}
use Rattle.task_pages.specs.declared.task_error.TaskError.TheVariants.{NoMemory}
use Rattle.awkwasm.proofs.answer_arguments.Goals as goal

pub returns-clause-err : goal.returns-clause-err
returns-clause-err c =
    let same = ap texts c.deref.ensures.value ∙ c.in_ok-words.ensures in
    subst (λ (words : List Text). IfErr c.answer.result (λ undone. takes line_app (spelled_line words) ≡ true → undone ≡ NoMemory)) same c.answer.ensures.err
