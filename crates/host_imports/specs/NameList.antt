-- The names of the imports in the order of their numbers. `import_name` says the same by cases.
use Rattle.std.specs.Prelude.{◌≡◌, ℕ, List, [], ◌∷◌, codes, map, refl}
use Rattle.host_imports.specs.Imports.{imports}
use Rattle.host_imports.specs.Names.{import_name}

abbrev pub names : List (List ℕ)
names =
    codes "num" ∷ codes "lit" ∷ codes "uninit" ∷ codes "dup" ∷ codes "to_num" ∷ codes "int_of" ∷ codes "truth" ∷ codes "compare" ∷ codes "concat"
    ∷ codes "pow" ∷ codes "fail" ∷ codes "get_special" ∷ codes "set_special" ∷ codes "field" ∷ codes "set_field" ∷ codes "new_array" ∷ codes "elem"
    ∷ codes "set_elem" ∷ codes "has" ∷ codes "delete" ∷ codes "join" ∷ codes "iter" ∷ codes "iter_next" ∷ codes "length" ∷ codes "matches"
    ∷ codes "match" ∷ codes "sub" ∷ codes "sub_result" ∷ codes "split" ∷ codes "substr" ∷ codes "substr_from" ∷ codes "index" ∷ codes "lower"
    ∷ codes "upper" ∷ codes "next_main" ∷ codes "getline" ∷ codes "getline_var" ∷ codes "getline_file" ∷ codes "getline_var_file" ∷ codes "line"
    ∷ codes "declare" ∷ codes "start_assign" ∷ codes "pending_name" ∷ codes "pending_value" ∷ codes "begin_end" ∷ codes "close" ∷ codes "arg"
    ∷ codes "sprintf" ∷ codes "print" ∷ codes "printf" ∷ codes "drop" ∷ codes "iter_free" ∷ codes "free_array" ∷ codes "next_file" ∷ codes "clear"
    ∷ codes "flush" ∷ []

pub names_are : map import_name imports ≡ names
names_are = refl
