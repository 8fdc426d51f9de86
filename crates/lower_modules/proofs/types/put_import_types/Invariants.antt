use Rattle.std.proofs.Common.{map, drop}
use Rattle.wasm_types.specs.View.{signature_of}
use Rattle.host_imports.specs.Imports.{import_type}
use Rattle.latched.proofs.LatchedLemmas.{Adding}
use Rattle.lower_modules.proofs.types.put_import_types.Given as goal

abbrev pub invariant-loop-import : goal.invariant-loop-import
invariant-loop-import l = Adding signature_of l.fn.all l.all (map import_type (drop l.import-index l.used)) (map import_type l.used)
