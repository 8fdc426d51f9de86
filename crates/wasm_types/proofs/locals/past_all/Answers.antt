use Rattle.std.proofs.Common.{◌-◌, length, arith}
use Rattle.wasm_types.proofs.RunLemmas.{last_end}
use Rattle.wasm_types.proofs.locals.past_all.Goals as goal

pub returns-in-len1-up : goal.returns-in-len1-up
returns-in-len1-up c = last_end 0 c.args.runs.now (length c.args.runs.now - 1) _ (omega (arith, c.in-len1-up.len_at_least))
