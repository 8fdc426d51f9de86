use Rattle.wasm_model.proofs.Whole.{turn_safe}
use Rattle.wasm_model.proofs.reduction_laws.turn_safe.Goals as goal

pub returns : goal.returns
returns c = turn_safe
