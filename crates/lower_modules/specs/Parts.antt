-- The parts of a module, before they are put together.
use Rattle.std.specs.Prelude.{◌≡◌, ℕ, Bool, List, [], ◌∷◌, ◌++◌, length, map}
use Rattle.mid_program.specs.Mid.{Program}
use Rattle.wasm_types.specs.Syntax.{DataForm, Done}
use Rattle.wasm_types.specs.View.{signature_of, view_data, view_export, view_func, view_global, view_import}
use Rattle.wasm_types.specs.declared.instr.Simple.TheVariants.{I32Const}
use Rattle.host_imports.specs.Imports.{import_type}
use Rattle.host_imports.specs.declared.import.Import.{Import}
use Rattle.lower_model.specs.Machine.{Callee}
use Rattle.lower_model.specs.Modules.{callee_type, exports_of, functions_from, globals_of, imported_from, memory_for}
use Rattle.lower_model.specs.Small.{emit}
use Rattle.lower_modules.specs.declared.module.CodeParts.{CodeParts}
use Rattle.lower_modules.specs.declared.module.DataParts.{DataParts}

-- bytes at address 0
abbrev pub text_form : List ℕ → DataForm
text_form bytes = record { memory = 0; offset = emit (I32Const 0) Done; init = bytes }

-- of functions that call these imports, which are used
pub record AreCodeParts (called : List Bool) (used : List Import) (functions : List Callee) (parts : CodeParts) : Type 0 where
  pub first : parts.first ≡ length used
  pub types : map signature_of parts.types.items ≡ map import_type used ++ map callee_type functions
  pub imports : map view_import parts.imports.items ≡ imported_from 0 used
  pub funcs : map view_func parts.funcs.items ≡ functions_from called (length used) functions

pub record AreDataParts (program : Program) (bytes : List ℕ) (main : ℕ) (parts : DataParts) : Type 0 where
  pub memories : parts.memories.items ≡ memory_for (length bytes) ∷ []
  pub globals : map view_global parts.globals.items ≡ globals_of program
  pub exports : map view_export parts.exports.items ≡ exports_of main
  pub segments : map view_data parts.segments.items ≡ text_form bytes ∷ []
