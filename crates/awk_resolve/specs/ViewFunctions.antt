-- What functions with their parameters' kinds stand for.
use Rattle.std.specs.Prelude.{List, map}
use Rattle.awk_grammar.specs.Kinds.{Function as PlainFunction}
use Rattle.awk_resolve.specs.ViewKinds.{view_name_kinds}
use Rattle.awk_resolve.specs.declared.function_names.FunctionNames.{FunctionNames}

abbrev pub view_function : FunctionNames → PlainFunction
view_function f = record { name = f.name.now; parameters = view_name_kinds f.parameters.items }

abbrev pub view_functions : List FunctionNames → List PlainFunction
view_functions fs = map view_function fs
