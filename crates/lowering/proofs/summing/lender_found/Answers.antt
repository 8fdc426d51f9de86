use Rattle.std.proofs.Common.{◌≡◌, ◌+◌, suc, arith}
use Rattle.wasm_types.specs.Syntax.{Done}
use Rattle.lowering.proofs.summing.lender_found.Goals as goal

pub returns : goal.returns
returns c =
    let inner : c.args.exit + 1 ≡ suc c.args.exit = omega arith in
    (rw c.global_number.ensures at c.numbered_or.ensures) _ ((rw inner at c.global_found.ensures) Done _ (c.new-found.ensures _))
