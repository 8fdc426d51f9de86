-- The plain function that an emitted one stands for.
use Rattle.std.specs.Prelude.{List, map}
use Rattle.mid_program.specs.View.{view_kind}
use Rattle.wasm_types.specs.View.{views}
use Rattle.lower_model.specs.Machine.{Callee}
use Rattle.lower_modules.specs.declared.function.Function.{Function}

abbrev pub view_function : Function → Callee
view_function function = record { kinds = map view_kind function.kinds.items; locals = function.locals.items; answer = function.answer; body = views function.body.items }

abbrev pub view_functions : List Function → List Callee
view_functions functions = map view_function functions
