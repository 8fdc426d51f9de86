use Rattle.std.proofs.Common.{◌∙◌, ap, sym}
use Rattle.std.proofs.lemmas.Bool.{false≢true}
use Rattle.std.proofs.lemmas.Result.{IfErr-weaker}
use Rattle.clap.specs.Words.{Text, takes}
use Rattle.command_line.specs.Line.{line_app}
use Rattle.command_line.specs.Request.{texts}
use Rattle.std.specs.Prelude.{List}
use Rattle.awkwasm.proofs.answer.Goals as goal

pub returns-in-Err-2-clause-err : goal.returns-in-Err-2-clause-err
returns-in-Err-2-clause-err c =
    let same = ap texts c.deref.ensures.value ∙ c.in_ok-line.ensures in
    IfErr-weaker c.refuse.result _ _ (λ undone told taken.
    let memory = c.in-Err.ensures.err (ap (λ (line : List Text). takes line_app line) same ∙ taken) in
    absurd (false≢true (sym c.if-is_no_memory.false ∙ c.is_no_memory.ensures.1 memory))) c.refuse.ensures.err
