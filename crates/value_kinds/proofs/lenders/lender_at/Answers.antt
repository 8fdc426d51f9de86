use Rattle.std.proofs.Common.{arith}
use Rattle.value_kinds.proofs.Views.{lender_past, lender_there}
use Rattle.value_kinds.proofs.lenders.lender_at.Goals as goal

pub returns-then-place-lenders : goal.returns-then-place-lenders
returns-then-place-lenders c = lender_past c.args.lenders.now c.args.place (omega arith)

pub returns : goal.returns
returns c = lender_there c.args.lenders.now c.args.place _ (omega arith)
