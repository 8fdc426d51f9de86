-- Where a module was: what is told of a run at some point of it, by the lines that its bytes have.
use Rattle.std.specs.Prelude.{◌≡◌, ◌≢◌, ◌≤◌, ◌+◌, ℕ, true, List, Option, Some, None, is_some, length, option_and_then, slice_get}
use Rattle.awk_values.specs.Values.{text_of_value}
use Rattle.sem_primitives.specs.Jobs.{JobForm}
use Rattle.sem_primitives.specs.declared.constants.Special.TheVariants.{Filename, Fnr, Nr}
use Rattle.world_core.specs.WorldState.{State}
use Rattle.wasm_types.specs.Syntax.{ModuleForm}
use Rattle.wasm_types.specs.ModuleGrammar.{IsModule}
use Rattle.wasm_model.specs.Links.{IsNew}
use Rattle.wasm_model.specs.Machines.{Conf, ProgramForm}
use Rattle.wasm_model.specs.Runs.{MachineForm}
use Rattle.wasm_model.specs.MachineRuns.{Did}
use Rattle.wasm_model.specs.declared.ends.MachineEnd.{MachineEnd}
use Rattle.wasm_model.specs.declared.ends.MachineEnd.TheVariants.{OutOfSteps}
use Rattle.wasm_machine.specs.Places.{HasStatement, StandsAt, frame_at}
use Rattle.wasm_machine.specs.declared.places.Place.{Place}
use Rattle.host_imports.specs.Imports.{host_finds}
use Rattle.host_values.specs.Forms.{HostForm}
use Rattle.host_values.specs.FormMeaning.{Told, form_meaning}
use Rattle.host_values.specs.Findings.{ShownFirst}
use Rattle.script_places.specs.Lines.{FunctionForm, line_in, name_in}
use Rattle.script_places.specs.Reading.{table_in}
use Rattle.run_report.specs.declared.whereabouts.CallSite.{CallSite}
use Rattle.run_report.specs.declared.whereabouts.Whereabouts.{Whereabouts}
use Rattle.run_modules.specs.FaultStep.{FaultStep}
use Rattle.script_places.specs.Sites.{next_record}
use Rattle.run_modules.specs.declared.module_sights.ModuleWhereabouts.{ModuleWhereabouts}
use Rattle.run_modules.specs.declared.module_sights.ModuleWhereabouts.TheVariants.{Lined, Unlined}

-- What is told of where a frame stands in a function of the module: the place of the statement at work; the line of this place, in that function,
-- or none where it is at no statement; and the name of the function, if it is one of the script's.
pub record IsLineSite (table : List FunctionForm) (program : ProgramForm) (place : Place) (site : CallSite) : Type 0 where
  pub statement : HasStatement program next_record place site.place
  pub line : site.line ≡ option_and_then (line_in table place.function) site.place
  pub name : site.function ≡ name_in table place.function

-- each site is told of the frame of its number, the innermost first, at the place where that stands
abbrev pub AreLineSites : List FunctionForm → ProgramForm → Conf → List CallSite → Type 0
AreLineSites table program conf sites = (n : ℕ) (site : CallSite) → slice_get sites n ≡ Some site
    → (place : Place) × StandsAt program.whole place (frame_at conf n) × IsLineSite table program place site

-- What is told of a configuration of a module with lines over a host: of its frames eight at most, all others counted, but for the first one, in which `main`
-- is called; and the texts of three special variables. What its error was about is not told.
pub record TellsLines (table : List FunctionForm) (program : ProgramForm) (conf : Conf) (form : HostForm) (found : Whereabouts) : Type 0 where
  pub sites : AreLineSites table program conf found.sites.items
  pub count : length found.sites.items + found.more ≡ length conf.callers
  pub most : length found.sites.items ≤ 8
  pub nr : found.nr ≡ text_of_value (form.shared.inner.specials Nr)
  pub fnr : found.fnr ≡ text_of_value (form.shared.inner.specials Fnr)
  pub filename : found.filename ≡ text_of_value (form.shared.inner.specials Filename)
  pub about : found.about ≡ None

-- of a module without lines: in which of its functions the frame at work stands, imports counted first
abbrev pub TellsUnlined : (imports : ℕ) → ModuleForm → Conf → Option ℕ → Type 0
TellsUnlined imports whole conf (Some n) = (place : Place) × StandsAt whole place (frame_at conf 0) × (n ≡ place.function + imports)
TellsUnlined imports whole conf None = Unit {0}

abbrev pub TellsModule : Option (List FunctionForm) → (imports : ℕ) → ProgramForm → Conf → HostForm → ModuleWhereabouts → Type 0
TellsModule (Some table) imports program conf form (Lined found) = TellsLines table program conf form found
TellsModule None imports program conf form (Unlined function) = TellsUnlined imports program.whole conf function
TellsModule _ imports program conf form found = ⊥

-- Of a run of so many steps at most it is told where it stood at its end, or where it paused: there a fault was kept, in the last of the steps that it took.
pub record IsModuleSeen (tells : Type 0) (table : Option (List FunctionForm)) (imports : ℕ) (program : ProgramForm) (steps : ℕ) (start : Conf) (first : HostForm) (found : ModuleWhereabouts) : Type 0 where
  pub taken : ℕ
  pub within : taken ≤ steps
  pub end : MachineEnd
  pub conf : Conf
  pub left : HostForm
  pub did : Did (form_meaning tells) program taken start (Told first) end conf (Told left)
  pub why : taken ≢ steps → is_some left.fault ≡ true
  pub at_once : end ≡ OutOfSteps → first.fault ≡ None → is_some left.fault ≡ true → FaultStep tells program taken start first conf left
  pub told : TellsModule table imports program conf left found

-- so of the run of a typed module in a job, from its beginning
pub record IsModuleSeenOf (tells : Type 0) (table : Option (List FunctionForm)) (whole : ModuleForm) (job : JobForm) (steps : ℕ) (before : State) (found : ModuleWhereabouts) : Type 0 where
  pub machine : MachineForm
  pub is_new : IsNew host_finds whole machine
  pub start : HostForm
  pub begins : ShownFirst start job (before.readers 0) before.outside
  pub seen : IsModuleSeen tells table (length whole.imports) machine.program steps machine.conf start found

-- which some bytes are, by the lines that the bytes have
pub record IsModuleSeenIn (tells : Type 0) (bytes : List ℕ) (job : JobForm) (steps : ℕ) (before : State) (found : ModuleWhereabouts) : Type 0 where
  pub whole : ModuleForm
  pub read : IsModule bytes whole
  pub run : IsModuleSeenOf tells (table_in bytes) whole job steps before found
