use Rattle.wasm_model.proofs.Reduced.{step_is}
use Rattle.wasm_model.proofs.reduction_laws.step_is_reduced.Goals as goal

pub returns : goal.returns
returns g c = λ m p d h k. step_is g.H.HostCalls.meaning m p d h k
