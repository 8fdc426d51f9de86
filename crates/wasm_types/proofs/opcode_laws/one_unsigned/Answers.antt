use Rattle.wasm_types.proofs.Groups.{unsigned_is_one}
use Rattle.wasm_types.proofs.opcode_laws.one_unsigned.Goals as goal

pub returns : goal.returns
returns c = unsigned_is_one
