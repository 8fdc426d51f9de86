use Rattle.wasm_model.proofs.Safe.{never_stuck}
use Rattle.wasm_model.proofs.reduction_laws.never_stuck.Goals as goal

pub returns : goal.returns
returns c = never_stuck
