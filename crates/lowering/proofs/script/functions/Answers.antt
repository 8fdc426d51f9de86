use Rattle.std.proofs.Common.{inr}
use Rattle.mid_program.specs.View.{view_mid}
use Rattle.lower_layout.proofs.Refusals.{refused}
use Rattle.lowering.proofs.Smallness.{lenders_fit, with_main}
use Rattle.lowering.proofs.Weighing.{no_module}
use Rattle.lowering.proofs.script.functions.Goals as goal

pub routine_functions-requires-clause-lenders : goal.routine_functions-requires-clause-lenders
routine_functions-requires-clause-lenders c = lenders_fit (view_mid c.args.layout.now.program.now) c.args.layout.now.small c.requires

pub main_function-requires-clause-lenders : goal.main_function-requires-clause-lenders
main_function-requires-clause-lenders c = lenders_fit (view_mid c.args.layout.now.program.now) c.args.layout.now.small c.requires

pub returns-in_err-main-clause-too_large : goal.returns-in_err-main-clause-too_large
returns-in_err-main-clause-too_large c =
    refused c.from_residual-in_err-main.result c.in_err-main.field-0.0 _ c.from_residual-in_err-main.ensures.1
    (λ e small. inr (inr (no_module (view_mid c.args.layout.now.program.now) (c.in_err-main.ensures.too_large e small.1.1))))

pub returns-clause-functions : goal.returns-clause-functions
returns-clause-functions c = with_main (view_mid c.args.layout.now.program.now) _ _ _ c.in_ok-pushed.ensures c.in_ok-main.ensures.function c.in_ok-all.ensures.functions
