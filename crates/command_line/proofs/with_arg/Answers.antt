use Rattle.std.specs.Prelude.{IfOk}
use Rattle.std.proofs.Common.{subst, Result}
use Rattle.std.proofs.lemmas.Result.{IfOk-weaker}
use Rattle.clap.specs.declared.builder.command.Command.{Command}
use Rattle.std.specs.declared.alloc.AllocError.{AllocError}
use Rattle.command_line.specs.Line.{Builds}
use Rattle.command_line.proofs.LineLemmas.{one_arg}
use Rattle.command_line.proofs.with_arg.Goals as goal

pub returns-in-Ok : goal.returns-in-Ok
returns-in-Ok c = λ app rule is built.
    let before = subst (λ (r : Result Command AllocError). IfOk r (Builds app)) c.in-Ok.is built in
    IfOk-weaker c.arg.result _ _ (λ after adds. one_arg c.in-Ok.command after c.args.arg app rule c.requires is before adds) c.arg.ensures
