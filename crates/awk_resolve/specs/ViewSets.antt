-- What the kinds of variables stand for.
use Rattle.std.specs.Prelude.{Bool, List}
use Rattle.awk_grammar.specs.Kinds.{Key}
use Rattle.awk_resolve.specs.Marked.{is_marked_in}
use Rattle.awk_resolve.specs.ViewNames.{view_variables}
use Rattle.awk_resolve.specs.declared.sets.Kinds.{Kinds}

-- the variables that have kinds
abbrev pub variables_in : Kinds → List Key
variables_in kinds = view_variables kinds.variables.keys

-- whether a variable is used as an array
abbrev pub arrays_in : Kinds → Key → Bool
arrays_in kinds = is_marked_in (variables_in kinds) kinds.arrays.items

-- whether a variable is used as a scalar
abbrev pub scalars_in : Kinds → Key → Bool
scalars_in kinds = is_marked_in (variables_in kinds) kinds.scalars.items
