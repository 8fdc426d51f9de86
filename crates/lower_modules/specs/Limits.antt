-- Which scripts are too large for a module.
use Rattle.std.specs.Prelude.{ℕ, ◌<◌, List, length, ◌⊎◌}
use Rattle.mid_program.specs.Mid.{Program}
use Rattle.wasm_types.specs.ModuleGrammar.{IsModule}
use Rattle.wasm_types.specs.Profile.{most_module_bytes}
use Rattle.lower_model.specs.Functions.{texts_of}
use Rattle.lower_model.specs.Modules.{module_of}
use Rattle.lower_model.specs.Places.{memory_of}

-- a module has at most so many bytes
abbrev pub most_bytes : ℕ
most_bytes = most_module_bytes

-- its texts alone, or its functions of a byte each, pass that; or no bytes are its module
abbrev pub IsTooLarge : Program → Type 0
IsTooLarge program =
    (most_bytes < length (memory_of (texts_of program)))
    ⊎ ((most_bytes < length program.routines) ⊎ ((bytes : List ℕ) → IsModule bytes (module_of program) → ⊥))
