use Rattle.std.proofs.Common.{◌≡◌, map, take}
use Rattle.wasm_types.specs.View.{signature_of}
use Rattle.host_imports.specs.Imports.{import_type}
use Rattle.host_imports.proofs.links.types_of.Given as goal

abbrev pub invariant-loop-import : goal.invariant-loop-import
invariant-loop-import l = map signature_of l.types.items ≡ map import_type (take l.import-index l.imports)
