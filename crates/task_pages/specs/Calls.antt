-- The imports of a module, and that its machine makes no other call.
use Rattle.std.specs.Prelude.{ℕ, ◌≡◌, ◌≢◌, List, [], ◌∷◌, Option, Some, None, Result, Ok, Err, slice_get}
use Rattle.std.specs.declared.vec.Vec.{Vec}
use Rattle.std.specs.declared.alloc.Global.{Global}
use Rattle.wasm_types.specs.Syntax.{ModuleForm}
use Rattle.wasm_types.specs.ModuleGrammar.{IsModule}
use Rattle.wasm_types.specs.Typing.{ModuleOk}
use Rattle.module_decoder.specs.Reading.{module_at}
use Rattle.module_decoder.specs.declared.fault.DecodeFault.{DecodeFault}
use Rattle.module_decoder.specs.declared.fault.DecodeFault.TheVariants as decoding
use Rattle.module_validator.specs.Faults.{Refuses as Untypes}
use Rattle.module_validator.specs.declared.valid.InvalidFault.{InvalidFault}
use Rattle.module_validator.specs.declared.valid.InvalidFault.TheVariants as invalid
use Rattle.wasm_model.specs.Hosts.{Meaning}
use Rattle.wasm_model.specs.Links.{IsNew, first_none, numbers_for}
use Rattle.wasm_model.specs.Machines.{Asks, Conf, Turn, turn}
use Rattle.wasm_model.specs.Runs.{MachineForm, Ran}
use Rattle.wasm_model.specs.declared.ends.RunEnd.{RunEnd}
use Rattle.world_core.specs.WorldState.{Action}
use Rattle.host_step.specs.HostState.{HostState}
use Rattle.host_step.specs.HostStep.{HostStep}
use Rattle.host_imports.specs.Imports.{host_finds, import_at}
use Rattle.host_imports.specs.declared.import.Import.{Import}
use Rattle.task_pages.specs.declared.checks.Unlisted.{Unlisted}
use Rattle.task_pages.specs.declared.checks.Unlisted.TheVariants.{Decode, Invalid, BadImport, NoMemory}

-- The imports.

-- the import that the host has under a number that may be there
abbrev pub IsImportOf : Option Import → Option ℕ → Type 0
IsImportOf (Some i) number = (n : ℕ) × (number ≡ Some n) × (import_at n ≡ Some i)
IsImportOf None number = number ≡ None

-- each number is there, and is that of the import at its place
abbrev pub AreImportsOf : List Import → List (Option ℕ) → Type 0
AreImportsOf [] [] = Unit {0}
AreImportsOf (i ∷ found) (number ∷ numbers) = IsImportOf (Some i) number × AreImportsOf found numbers
AreImportsOf _ _ = ⊥

-- The bytes are a typed module with these imports, in its order. A machine of it has their numbers.
pub record HasImports (bytes : List ℕ) (found : List Import) : Type 0 where
  pub whole : ModuleForm
  pub read : IsModule bytes whole
  pub typed : ModuleOk whole
  pub imports : AreImportsOf found (numbers_for host_finds whole)

-- Why there is no list. Memory may run out at any time.

-- the module of these bytes, which the typing rules do not allow
pub record IsInvalid (bytes : List ℕ) (fault : InvalidFault) : Type 0 where
  pub whole : ModuleForm
  pub read : IsModule bytes whole
  pub named : fault ≢ invalid.NoMemory
  pub cause : Untypes whole fault
  pub untyped : ModuleOk whole → ⊥

-- the first import of a typed module that the host does not have
pub record LacksImport (bytes : List ℕ) (place : ℕ) : Type 0 where
  pub whole : ModuleForm
  pub read : IsModule bytes whole
  pub typed : ModuleOk whole
  pub first : first_none (numbers_for host_finds whole) ≡ Some place

abbrev pub IsUnlisted : List ℕ → Unlisted → Type 0
IsUnlisted bytes (Decode fault) = (module_at bytes ≡ Err fault) × ((m : ModuleForm) → IsModule bytes m → ⊥)
IsUnlisted bytes (Invalid fault) = IsInvalid bytes fault
IsUnlisted bytes (BadImport place) = LacksImport bytes place
IsUnlisted bytes NoMemory = Unit {0}

-- The calls.

abbrev pub IsOneOf : ℕ → List ℕ → Type 0
IsOneOf n numbers = (at : ℕ) × (slice_get numbers at ≡ Some n)

-- a host without the calls of all other numbers: they have no answer
abbrev pub only : {H O : Type 0} → List ℕ → Meaning H O → Meaning H O
only numbers M h n words mem a h' mem' out = IsOneOf n numbers × M h n words mem a h' mem' out

-- the number of an import of the list
abbrev pub IsAmong : List Import → ℕ → Type 0
IsAmong found n = (at : ℕ) × (i : Import) × (slice_get found at ≡ Some i) × (import_at n ≡ Some i)

-- where a step asks the host, it asks for an import of the list
abbrev pub AsksAmong : List Import → Turn → Type 0
AsksAmong found (Asks n words after) = IsAmong found n
AsksAmong found _ = Unit {0}

-- No machine of the module asks for another import: in whatever configuration it is, and so whatever its host is and has answered.
abbrev pub AsksOnly : List ℕ → List Import → Type 0
AsksOnly bytes found = (whole : ModuleForm) (a : MachineForm) (c : Conf) → IsModule bytes whole → IsNew host_finds whole a
    → AsksAmong found (turn a.program c)

-- what calls mean to a machine, by the definition of the host's steps; no import changes memory
abbrev pub step_meaning : Meaning HostState Action
step_meaning before n words mem a after mem' output = (mem' ≡ mem) × HostStep n before words mem.bytes a after output

-- no run of the module puts anything out, from whatever state of the host: no byte is written, and no name is opened for writing
abbrev pub IsSilent : List ℕ → Type 0
IsSilent bytes = (whole : ModuleForm) (a : MachineForm) (steps : ℕ) (s s' : HostState) (output : List Action) (e : RunEnd) (c' : Conf)
    → IsModule bytes whole → IsNew host_finds whole a → Ran step_meaning a.program steps a.conf s output e c' s' → output ≡ []

-- The rest serves contracts inside the crate.

-- what is answered for bytes that the decoder refuses so
abbrev pub undecoded : DecodeFault → Unlisted
undecoded decoding.NoMemory = NoMemory
undecoded fault = Decode fault

abbrev pub IsTyped : List ℕ → ModuleForm → Type 0
IsTyped bytes m = IsModule bytes m × ModuleOk m

-- the imports of all numbers, or the place of the first number that is missing
abbrev pub Lists : Result (Vec Import Global) Unlisted → List (Option ℕ) → Type 0
Lists (Ok found) numbers = AreImportsOf found.items numbers
Lists (Err (BadImport place)) numbers = first_none numbers ≡ Some place
Lists (Err NoMemory) numbers = Unit {0}
Lists (Err _) numbers = ⊥
