use Rattle.wasm_types.proofs.Leads.{lead_again, one_lead}
use Rattle.wasm_types.proofs.opcode_laws.opcodes_differ.Goals as goal

pub returns-clause-found : goal.returns-clause-found
returns-clause-found c = lead_again

pub returns-clause-one : goal.returns-clause-one
returns-clause-one c = one_lead
