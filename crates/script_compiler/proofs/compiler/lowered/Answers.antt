use Rattle.std.proofs.Common.{◌≡◌, IfErr, IfOk, subst, sym}
use Rattle.mid_program.specs.View.{view_mid}
use Rattle.mid_program.specs.declared.program.Mid.{Mid}
use Rattle.mid_program.specs.Sorted.{IsSorted}
use Rattle.wasm_types.specs.View.{view_module}
use Rattle.lower_model.specs.Modules.{module_of}
use Rattle.lower_modules.specs.Limits.{IsTooLarge}
use Rattle.lowering.specs.Limits.{AreSmallEnough}
use Rattle.lower_layout.specs.declared.fault.LowerFault.TheVariants.{TooLarge}
use Rattle.lower_layout.proofs.Refusals.{refused}
use Rattle.script_compiler.proofs.Compiling.{past_counts}
use Rattle.script_compiler.proofs.compiler.lowered.Goals as goal

pub returns-in_err-layout-clause-too_large : goal.returns-in_err-layout-clause-too_large
returns-in_err-layout-clause-too_large c =
    refused c.from_residual.result c.in_err-layout.field-0.0 _ c.from_residual.ensures.1 (λ large small. absurd (c.in_err-layout.ensures.too_large large small))

pub lower-requires : goal.lower-requires
lower-requires c = subst (λ (m : Mid). IsSorted (view_mid m)) (sym c.in_ok-layout.ensures.layout) c.requires

pub returns-clause-module : goal.returns-clause-module
returns-clause-module c = subst (λ (m : Mid). IfOk c.lower.result (λ r. view_module r ≡ module_of (view_mid m))) c.in_ok-layout.ensures.layout c.lower.ensures.module

pub returns-clause-too_large : goal.returns-clause-too_large
returns-clause-too_large c = past_counts c.lower.result (view_mid c.args.mid.now) (subst (λ (m : Mid). IfErr c.lower.result (λ e. e ≡ TooLarge → AreSmallEnough (view_mid m) → IsTooLarge (view_mid m))) c.in_ok-layout.ensures.layout c.lower.ensures.too_large)
