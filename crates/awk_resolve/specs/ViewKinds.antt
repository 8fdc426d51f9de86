-- What names with their kinds stand for.
use Rattle.std.specs.Prelude.{List, map}
use Rattle.awk_grammar.specs.Kinds.{Name as PlainName}
use Rattle.awk_resolve.specs.declared.function_names.NameKind.{NameKind}

abbrev pub view_name : NameKind → PlainName
view_name n = record { name = n.name.now; is_array = n.is_array }

abbrev pub view_name_kinds : List NameKind → List PlainName
view_name_kinds ns = map view_name ns
