use Rattle.agreement.proofs.TypedLemmas.Whole.{module_ok}
use Rattle.agreement.proofs.typed.typed.Goals as goal

pub returns : goal.returns
returns c = module_ok
