use Rattle.std.specs.Prelude.{IfOk}
use Rattle.std.proofs.Common.{◌≡◌, subst, Result}
use Rattle.std.proofs.lemmas.Result.{IfOk-weaker}
use Rattle.clap.specs.Words.{app_of}
use Rattle.clap.specs.declared.builder.command.Command.{Command}
use Rattle.std.specs.declared.alloc.AllocError.{AllocError}
use Rattle.command_line.specs.Line.{Builds}
use Rattle.command_line.proofs.LineLemmas.{one_more}
use Rattle.command_line.proofs.with_subcommand.Goals as goal

pub returns-in-Ok : goal.returns-in-Ok
returns-in-Ok c = λ app sub line added.
    let before = subst (λ (r : Result Command AllocError). IfOk r (λ k. app_of k ≡ app)) c.in-Ok.ensures.0 line in
    let other = subst (λ (r : Result Command AllocError). IfOk r (Builds sub)) c.in-Ok.ensures.1 added in
    IfOk-weaker c.subcommand.result _ _ (λ after adds. one_more c.in-Ok.line c.in-Ok.added after app sub before other adds) c.subcommand.ensures
