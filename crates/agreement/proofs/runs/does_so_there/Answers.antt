use Rattle.std.proofs.Common.{refl}
use Rattle.wasm_model.specs.declared.ends.MachineEnd.TheVariants as machine
use Rattle.agreement.proofs.RunsLemmas.Agreeing
use Rattle.agreement.proofs.runs.does_so_there.Goals as goal

pub returns-clause-does : goal.returns-clause-does
returns-clause-does c = Agreeing.does_so_there

pub returns-clause-bounded : goal.returns-clause-bounded
returns-clause-bounded c = λ script m agree job steps f output r. Agreeing.goes_on_there script m agree job steps machine.OutOfSteps refl f output r
