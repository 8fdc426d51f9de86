-- Why a script is not compiled.
use Rattle.std.specs.Prelude.{◌⊎◌, ◌<◌, ℕ, List, length}
use Rattle.awk_tokens.specs.Cutting.{Spelled}
use Rattle.mid_program.specs.Mid.{Program}
use Rattle.wasm_types.specs.ModuleGrammar.{IsModule}
use Rattle.lower_model.specs.Modules.{module_of}
use Rattle.agreement.specs.Sizes.Past.{IsPast}
use Rattle.script_code.specs.Coded.{HasTokens, IsCodeOf, most_script_bytes}
use Rattle.script_code.specs.Refusals.{IsNotCoded}
use Rattle.run_report.specs.declared.compile_fault.CompileFault.{CompileFault}
use Rattle.run_report.specs.declared.compile_fault.CompileFault.TheVariants.{TooLarge}

-- no bytes of the profile are its module
abbrev pub IsPastLimits : Program → Type 0
IsPastLimits p = (bytes : List ℕ) → IsModule bytes (module_of p) → ⊥

-- No bytes are the module of the script's code, and why: it would have too many of them, a function with too many locals, or one with too many blocks in
-- one another. Nothing else makes it too large.
pub record HasLargeCode (tokens : List Spelled) : Type 0 where
  pub code : Program
  pub is_code : IsCodeOf tokens code
  pub large : IsPastLimits code
  pub past : IsPast (module_of code)

abbrev pub IsNotCompiled : List ℕ → CompileFault → Type 0
IsNotCompiled bytes TooLarge = (most_script_bytes < length bytes) ⊎ HasTokens bytes HasLargeCode
IsNotCompiled bytes fault = IsNotCoded bytes fault
