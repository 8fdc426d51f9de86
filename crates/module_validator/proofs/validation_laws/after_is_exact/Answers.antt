use Rattle.module_validator.proofs.Exact.{after_exact}
use Rattle.module_validator.proofs.validation_laws.after_is_exact.Goals as goal

pub returns : goal.returns
returns c = after_exact
