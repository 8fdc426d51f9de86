-- A host that has the imports of the table: the number and the type of each, by the names of its module and of itself.
use Rattle.std.specs.Prelude.{ℕ, suc, List, [], ◌∷◌, Option, Some, None, if◌then◌else◌}
use Rattle.wasm_types.specs.Syntax.{Signature}
use Rattle.wasm_model.specs.Hosts.{Finds}
use Rattle.sem_scripts.specs.Names.{same_name}
use Rattle.host_imports.specs.Imports.{imports, import_type, module_name}
use Rattle.host_imports.specs.Names.{import_name}
use Rattle.host_imports.specs.declared.import.Import.{Import}

-- among imports that are numbered from n on
abbrev pub found_in : ℕ → List Import → List ℕ → Option (ℕ × Signature)
found_in n [] name = None
found_in n (i ∷ is) name = if same_name (import_name i) name then Some (n, import_type i) else found_in (suc n) is name

abbrev pub table_finds : Finds
table_finds from name = if same_name module_name from then found_in 0 imports name else None
