use Rattle.module_decoder.proofs.CompleteModule.{one_module}
use Rattle.module_decoder.proofs.decoding_laws.one_module.Goals as goal

pub returns : goal.returns
returns c = one_module
