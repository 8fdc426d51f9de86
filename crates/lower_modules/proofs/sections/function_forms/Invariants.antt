use Rattle.std.proofs.Common.{◌≡◌, ◌+◌, drop}
use Rattle.wasm_types.specs.View.{view_func}
use Rattle.lower_model.specs.Modules.{functions_from}
use Rattle.latched.specs.Latched.{Leads}
use Rattle.lower_modules.specs.View.{view_functions}
use Rattle.lower_modules.proofs.sections.function_forms.Given as goal

abbrev pub invariant-loop-function : goal.invariant-loop-function
invariant-loop-function l = record {
  forms : Leads view_func l.all (functions_from l.numbers.called.now l.ty (view_functions (drop l.function-index l.functions))) (functions_from l.numbers.called.now l.first (view_functions l.functions));
  ty : l.ty ≡ l.first + l.function-index;
}
