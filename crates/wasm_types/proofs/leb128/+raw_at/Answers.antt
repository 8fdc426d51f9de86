use Rattle.std.proofs.Common.{◌-◌, arith}
use Rattle.wasm_types.proofs.Groups.{pow_step, pow_low, pow_top}
use Rattle.wasm_types.proofs.leb128.+raw_at.Goals as goal

pub returns-then-b-lt128-clause-small : goal.returns-then-b-lt128-clause-small
returns-then-b-lt128-clause-small t c = let p = pow_low c.args.most (omega arith) in omega (arith, p)

pub returns-then-b-lt128-clause-weight : goal.returns-then-b-lt128-clause-weight
returns-then-b-lt128-clause-weight t c = let p = pow_low c.args.most (omega arith) in omega (arith, p)

pub overflow_mul-result : goal.overflow_mul-result
overflow_mul-result t c = let p = pow_top (c.args.most - 1) (omega arith) in let h = c.in_ok-high-in-len1-up.ensures.small in omega (arith, p, h)

pub overflow_add-result : goal.overflow_add-result
overflow_add-result t c = let p = pow_top (c.args.most - 1) (omega arith) in let h = c.in_ok-high-in-len1-up.ensures.small in omega (arith, p, h)

pub overflow_mul-result-in-len1-up : goal.overflow_mul-result-in-len1-up
overflow_mul-result-in-len1-up t c = let p = pow_top (c.args.most - 1) (omega arith) in let h = c.in_ok-high-in-len1-up.ensures.weight in omega (arith, p, h)

pub returns-in_ok-high-in-len1-up-clause-small : goal.returns-in_ok-high-in-len1-up-clause-small
returns-in_ok-high-in-len1-up-clause-small t c = let p = pow_step c.args.most (omega arith) in let h = c.in_ok-high-in-len1-up.ensures.small in omega (arith, p, h)

pub returns-in_ok-high-in-len1-up-clause-weight : goal.returns-in_ok-high-in-len1-up-clause-weight
returns-in_ok-high-in-len1-up-clause-weight t c = let p = pow_step c.args.most (omega arith) in let h = c.in_ok-high-in-len1-up.ensures.weight in omega (arith, p, h)
