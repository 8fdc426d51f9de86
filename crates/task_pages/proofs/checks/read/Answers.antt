use Rattle.std.proofs.Common.{sym, subst}
use Rattle.task_pages.specs.Calls.{IsUnlisted}
use Rattle.task_pages.specs.declared.checks.Unlisted.{Unlisted}
use Rattle.task_pages.proofs.Unlisting.{undecoded_answers}
use Rattle.task_pages.proofs.checks.read.Goals as goal

pub returns-in-Err-clause-err : goal.returns-in-Err-clause-err
returns-in-Err-clause-err c =
    subst (λ (e : Unlisted). IsUnlisted c.args.bytes.now e) (sym c.undecoded.ensures) (undecoded_answers c.args.bytes.now c.in-Err.fault c.in-Err.ensures.read)
