-- What was named so far.
use Rattle.std.specs.Prelude.{ℕ, List}
use Rattle.awk_grammar.specs.Kinds.{Key}
use Rattle.awk_resolve.specs.ViewNames.{names, view_variables}
use Rattle.awk_resolve.specs.declared.refusals.Seen.{Seen}

-- the functions that were named
abbrev pub functions_named : Seen → List (List ℕ)
functions_named seen = names seen.functions.keys

-- the parameters that were named
abbrev pub parameters_named : Seen → List Key
parameters_named seen = view_variables seen.parameters.keys
