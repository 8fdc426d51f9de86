-- The types of the imports as they are kept.
use Rattle.std.specs.Prelude.{◌≡◌, map, Option, Some, None}
use Rattle.wasm_types.specs.Syntax.{Signature}
use Rattle.wasm_types.specs.View.{signature_of}
use Rattle.wasm_types.specs.declared.types.FuncType.{FuncType}
use Rattle.host_imports.specs.Imports.{import_type, imports}
use Rattle.host_imports.specs.declared.links.Links.TheInside.{Inside}

abbrev pub signature_if : Option FuncType → Option Signature
signature_if None = None
signature_if (Some t) = Some (signature_of t)

abbrev pub HasTypes : Inside → Type 0
HasTypes l = map signature_of l.types.items ≡ map import_type imports
