-- Where a script was: what is told of a run at some point of it.
use Rattle.std.specs.Prelude.{◌≡◌, ◌≢◌, ◌≤◌, ◌+◌, ◌⊎◌, ℕ, true, List, Option, None, Some, Err, IfSome, is_some, length}
use Rattle.awk_values.specs.Values.{number_of_value, text_of_value, truncated_of_value}
use Rattle.awk_values.specs.declared.fault.Fault.{Fault}
use Rattle.awk_values.specs.declared.fault.Fault.TheVariants.{OpenInput, OpenOutput, ReadFailed, WriteFailed}
use Rattle.awk_values.specs.declared.value.Value.TheVariants.{Text}
use Rattle.sem_primitives.specs.Eres.{expression_of}
use Rattle.sem_primitives.specs.Jobs.{JobForm}
use Rattle.sem_primitives.specs.declared.constants.Special.TheVariants.{Filename, Fnr, Nr}
use Rattle.world_core.specs.WorldState.{State}
use Rattle.wasm_types.specs.Syntax.{ModuleForm}
use Rattle.wasm_types.specs.ModuleGrammar.{IsModule}
use Rattle.wasm_model.specs.Links.{IsNew}
use Rattle.wasm_model.specs.Machines.{Conf, ProgramForm}
use Rattle.wasm_model.specs.Runs.{MachineForm}
use Rattle.wasm_model.specs.MachineRuns.{Did}
use Rattle.wasm_model.specs.declared.ends.MachineEnd.{MachineEnd}
use Rattle.wasm_model.specs.declared.ends.MachineEnd.TheVariants.{OutOfSteps}
use Rattle.host_imports.specs.Imports.{host_finds}
use Rattle.host_values.specs.Forms.{HostForm}
use Rattle.host_values.specs.FormMeaning.{Told, form_meaning}
use Rattle.host_values.specs.Findings.{ShownFirst}
use Rattle.run_modules.specs.FaultStep.{FaultStep}
use Rattle.run_report.specs.declared.subject.Subject.{Subject}
use Rattle.run_report.specs.declared.subject.Subject.TheVariants.{Expression, File, StandardInput, StandardOutput, Value}
use Rattle.run_report.specs.declared.whereabouts.Whereabouts.{Whereabouts}
use Rattle.script_places.specs.Sites.{AreSites, OfSource}

-- what is told of is a file, or a standard stream
abbrev pub IsFile : Subject → Type 0
IsFile (File name) = Unit {0}
IsFile StandardInput = Unit {0}
IsFile StandardOutput = Unit {0}
IsFile _ = ⊥

-- an error of opening, reading and writing
abbrev pub IsOfFile : Fault → Type 0
IsOfFile OpenInput = Unit {0}
IsOfFile ReadFailed = Unit {0}
IsOfFile OpenOutput = Unit {0}
IsOfFile WriteFailed = Unit {0}
IsOfFile _ = ⊥

-- What an error was about has this error: a value as a number, whole or cut at its point, and an expression as one. A file is told of errors of files alone;
-- which file it is is not said here.
abbrev pub IsAbout : Fault → Subject → Type 0
IsAbout fault (Value text) = (number_of_value (Text text) ≡ Err fault) ⊎ (truncated_of_value (Text text) ≡ Err fault)
IsAbout fault (Expression text) = expression_of text ≡ Err fault
IsAbout fault _ = IsOfFile fault

abbrev pub IsAboutKept : Option Fault → Subject → Type 0
IsAboutKept None subject = ⊥
IsAboutKept (Some fault) subject = IsAbout fault subject

-- What is told of a configuration of the script's module over a host: of its frames eight at most, all others counted, but for the first one, in which `main`
-- is called; the texts of three special variables; and what the error that is kept was about, if that is known.
pub record Tells (bytes : List ℕ) (program : ProgramForm) (conf : Conf) (form : HostForm) (found : Whereabouts) : Type 0 where
  pub sites : OfSource bytes (λ tokens script. AreSites tokens script program conf found.sites.items)
  pub count : length found.sites.items + found.more ≡ length conf.callers
  pub most : length found.sites.items ≤ 8
  pub nr : found.nr ≡ text_of_value (form.shared.inner.specials Nr)
  pub fnr : found.fnr ≡ text_of_value (form.shared.inner.specials Fnr)
  pub filename : found.filename ≡ text_of_value (form.shared.inner.specials Filename)
  pub about : IfSome found.about (IsAboutKept form.fault)

-- Of a run of so many steps at most it is told where it stood at its end, or where it paused: there a fault was kept, in the last of the steps that it took.
pub record IsSeen (tells : Type 0) (bytes : List ℕ) (program : ProgramForm) (steps : ℕ) (start : Conf) (first : HostForm) (found : Whereabouts) : Type 0 where
  pub taken : ℕ
  pub within : taken ≤ steps
  pub end : MachineEnd
  pub conf : Conf
  pub left : HostForm
  pub did : Did (form_meaning tells) program taken start (Told first) end conf (Told left)
  pub why : taken ≢ steps → is_some left.fault ≡ true
  pub at_once : end ≡ OutOfSteps → first.fault ≡ None → is_some left.fault ≡ true → FaultStep tells program taken start first conf left
  pub told : Tells bytes program conf left found

-- so of the run of a typed module in a job, from its beginning
pub record IsSeenOf (tells : Type 0) (bytes : List ℕ) (whole : ModuleForm) (job : JobForm) (steps : ℕ) (before : State) (found : Whereabouts) : Type 0 where
  pub machine : MachineForm
  pub is_new : IsNew host_finds whole machine
  pub start : HostForm
  pub begins : ShownFirst start job (before.readers 0) before.outside
  pub seen : IsSeen tells bytes machine.program steps machine.conf start found

-- which some bytes are
pub record IsSeenOfBytes (tells : Type 0) (bytes compiled : List ℕ) (job : JobForm) (steps : ℕ) (before : State) (found : Whereabouts) : Type 0 where
  pub whole : ModuleForm
  pub read : IsModule compiled whole
  pub run : IsSeenOf tells bytes whole job steps before found
