-- What the functions of the code stand for.
use Rattle.std.specs.Prelude.{List}
use Rattle.awk_grammar.specs.Kinds.{Head}
use Rattle.awk_resolve.specs.ViewNames.{view_heads}
use Rattle.awk_resolve.specs.declared.scopes.Scopes.{Scopes}

-- the functions of the script
abbrev pub functions_in : Scopes → List Head
functions_in scopes = view_heads scopes.heads.items
