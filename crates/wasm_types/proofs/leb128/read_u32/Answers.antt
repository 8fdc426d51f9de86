use Rattle.std.proofs.Common.{sym, ◌∙◌}
use Rattle.wasm_types.proofs.Groups.{read_found, unsigned_met, unsigned_missed, u32_is}
use Rattle.wasm_types.proofs.leb128.read_u32.Goals as goal

pub returns-in_err-n-clause-again : goal.returns-in_err-n-clause-again
returns-in_err-n-clause-again c = λ n text rest h e. absurd (unsigned_missed 5 4294967296 c.args.bytes.now (sym (u32_is c.args.bytes.now) ∙ c.in_err-n.ensures.found) n text rest h e)

pub returns-clause-found : goal.returns-clause-found
returns-clause-found c = read_found 5 4294967296 c.args.bytes.now c.in_ok-n.n c.in_ok-n.rest.now (sym (u32_is c.args.bytes.now) ∙ c.in_ok-n.ensures.found)

pub returns-clause-again : goal.returns-clause-again
returns-clause-again c = unsigned_met 5 4294967296 c.args.bytes.now c.in_ok-n.n c.in_ok-n.rest.now (sym (u32_is c.args.bytes.now) ∙ c.in_ok-n.ensures.found)
