use Rattle.std.proofs.Common.{map, drop}
use Rattle.wasm_types.specs.View.{signature_of}
use Rattle.lower_model.specs.Modules.{callee_type}
use Rattle.latched.proofs.LatchedLemmas.{Adding}
use Rattle.lower_modules.specs.View.{view_function}
use Rattle.lower_modules.proofs.types.put_function_types.Given as goal

abbrev pub invariant-loop-function : goal.invariant-loop-function
invariant-loop-function l = Adding signature_of l.fn.all l.all (map callee_type (map view_function (drop l.function-index l.functions))) (map callee_type (map view_function l.functions))
