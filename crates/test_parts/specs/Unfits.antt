-- Why bytes are not a module that may run.
use Rattle.std.specs.Prelude.{ℕ, List, Err}
use Rattle.wasm_types.specs.ModuleGrammar.{IsModule}
use Rattle.wasm_types.specs.Syntax.{ModuleForm}
use Rattle.wasm_types.specs.View.{view_module}
use Rattle.module_decoder.specs.Reading.{module_at}
use Rattle.module_decoder.specs.Readers.{Gives}
use Rattle.module_validator.specs.Faults.{Refuses}
use Rattle.test_parts.specs.declared.modules.Unfit.{Unfit}
use Rattle.test_parts.specs.declared.modules.Unfit.TheVariants.{Undecoded, Invalid}

-- the decoder's answer, or the validator's of the module that the bytes are
abbrev pub HasCause : List ℕ → Unfit → Type 0
HasCause bytes (Undecoded fault) = Gives view_module (Err fault) (module_at bytes)
HasCause bytes (Invalid fault) = (m : ModuleForm) × IsModule bytes m × Refuses m fault
