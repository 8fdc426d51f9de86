use Rattle.wasm_types.proofs.Groups.{signed_is_one}
use Rattle.wasm_types.proofs.opcode_laws.one_signed.Goals as goal

pub returns : goal.returns
returns c = signed_is_one
