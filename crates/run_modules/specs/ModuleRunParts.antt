-- What is said of the parts of running a module.
use Rattle.std.specs.Prelude.{◌⊎◌, ℕ, List}
use Rattle.world_core.specs.WorldState.{Action, State}
use Rattle.wasm_types.specs.Syntax.{ModuleForm}
use Rattle.wasm_types.specs.ModuleGrammar.{IsModule}
use Rattle.wasm_types.specs.Typing.{ModuleOk}
use Rattle.module_decoder.specs.declared.fault.DecodeFault.{DecodeFault}
use Rattle.module_decoder.specs.declared.fault.DecodeFault.TheVariants as decoding
use Rattle.sem_primitives.specs.Jobs.{JobForm}
use Rattle.run_report.specs.declared.end.Refusal.TheVariants.{Decode, Invalid, Link}
use Rattle.run_report.specs.declared.end.RunEnd.{RunEnd}
use Rattle.run_report.specs.declared.end.RunEnd.TheVariants as run
use Rattle.run_modules.specs.ModuleRun.{IsRefused, IsUnlinked, IsRunOf, IsUntouched}

-- what is answered for bytes that the decoder refuses so
abbrev pub undecoded : DecodeFault → RunEnd
undecoded decoding.NoMemory = run.NoMemory
undecoded fault = run.Refused (Decode fault)

-- of bytes that are not read as a typed module
abbrev pub Unread : List ℕ → RunEnd → Type 0
Unread bytes (run.Refused (Decode cause)) = IsRefused bytes (Decode cause)
Unread bytes (run.Refused (Invalid cause)) = IsRefused bytes (Invalid cause)
Unread bytes run.NoMemory = Unit {0}
Unread bytes _ = ⊥

abbrev pub IsTyped : List ℕ → ModuleForm → Type 0
IsTyped bytes m = IsModule bytes m × ModuleOk m

-- what is answered for a typed module; a run that wanted memory may not have begun
abbrev pub RunAnswers : (tells : Type 0) (given : List Action → Type 0) → ModuleForm → JobForm → ℕ → State → RunEnd → State → Type 0
RunAnswers tells given whole job steps before (run.Refused (Link cause)) after = IsUnlinked whole cause × IsUntouched given before after
RunAnswers tells given whole job steps before (run.Refused cause) after = ⊥
RunAnswers tells given whole job steps before run.NoMemory after = IsRunOf tells given whole job steps before run.NoMemory after ⊎ IsUntouched given before after
RunAnswers tells given whole job steps before e after = IsRunOf tells given whole job steps before e after
