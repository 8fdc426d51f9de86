use Rattle.std.proofs.Common.{sym, subst}
use Rattle.run_modules.specs.ModuleRunParts.{Unread}
use Rattle.run_report.specs.declared.end.RunEnd.{RunEnd}
use Rattle.run_modules.proofs.Runs.{undecoded_answers}
use Rattle.run_modules.proofs.module.read.Goals as goal

pub returns-in-Err-clause-err : goal.returns-in-Err-clause-err
returns-in-Err-clause-err c =
    subst (λ (e : RunEnd). Unread c.args.bytes.now e) (sym c.undecoded.ensures) (undecoded_answers c.args.bytes.now c.in-Err.fault c.in-Err.ensures.read)
