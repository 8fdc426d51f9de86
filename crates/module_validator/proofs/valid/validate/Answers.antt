use Rattle.wasm_types.specs.View.{view_module}
use Rattle.module_validator.proofs.Functions.{refused_untyped}
use Rattle.module_validator.proofs.valid.validate.Goals as goal

pub returns-in-Err-clause-untyped : goal.returns-in-Err-clause-untyped
returns-in-Err-clause-untyped c = refused_untyped (view_module c.args.m) c.in-Err.fault c.in-Err.ensures
