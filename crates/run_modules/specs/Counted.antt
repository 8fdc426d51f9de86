-- How often a script passed its places, counted step by step, and what its run took.
use Rattle.std.specs.Prelude.{◌≡◌, ℕ, List, [], ◌∷◌, Some, length, map, max}
use Rattle.std.specs.FinMap as finite
use Rattle.awk_values.specs.Values.{text_of_value}
use Rattle.sem_primitives.specs.Jobs.{JobForm}
use Rattle.sem_primitives.specs.declared.constants.Special.TheVariants.{Nr}
use Rattle.world_core.specs.WorldState.{State}
use Rattle.wasm_types.specs.Syntax.{ModuleForm}
use Rattle.wasm_types.specs.ModuleGrammar.{IsModule}
use Rattle.wasm_model.specs.Links.{IsNew}
use Rattle.wasm_model.specs.Machines.{Conf, ProgramForm}
use Rattle.wasm_model.specs.Runs.{MachineForm}
use Rattle.wasm_model.specs.MachineRuns.{Did}
use Rattle.wasm_model.specs.declared.ends.MachineEnd.{MachineEnd}
use Rattle.wasm_model.specs.declared.ends.MachineEnd.TheVariants.{OutOfSteps}
use Rattle.wasm_machine.specs.Places.{StandsAt}
use Rattle.host_imports.specs.Imports.{host_finds}
use Rattle.host_values.specs.Forms.{HostForm}
use Rattle.host_values.specs.FormMeaning.{Told, form_meaning}
use Rattle.host_values.specs.Findings.{ShownFirst}
use Rattle.run_report.specs.declared.counts.RunCounts.{RunCounts}
use Rattle.script_places.specs.Passes.{AreFirsts, Moment, nops_in, places_counted}
use Rattle.script_places.specs.Sites.{OfSource}

-- A run, step by step.

-- how many values have a handle in the host
abbrev pub values_in : HostForm → ℕ
values_in form = finite.len form.values

-- One run, which took a step for each of these moments, the latest first, and ended so: before each step, the frame at work stood at the place of the moment, and
-- the host had so many values. After each step but the last one, another step came next.
abbrev pub Stepped : (tells : Type 0) → ProgramForm → Conf → HostForm → List Moment → MachineEnd → Conf → HostForm → Type 0
Stepped tells m c h [] e c' h' = Did (form_meaning tells) m 0 c (Told h) e c' (Told h')
Stepped tells m c h (x ∷ xs) e c' h' =
    (c1 : Conf) × (h1 : HostForm) × Stepped tells m c h xs OutOfSteps c1 h1 × StandsAt m.whole x.place (Some c1.frame) × (x.values ≡ values_in h1)
    × Did (form_meaning tells) m 1 c1 (Told h1) e c' (Told h')

-- Runs.

abbrev pub greatest : List ℕ → ℕ
greatest [] = 0
greatest (n ∷ ns) = max n (greatest ns)

-- WHAT IS COUNTED of a run of so many steps at most, from its beginning: there is one run whose steps are these moments, to its end or as many as may be
-- taken. So many steps it took, in the last of which it ended; so many values there were at most, before a step or after the last one; the text of NR is that at the end;
-- and of each line it is told how often the first place was passed that begins on it.
pub record IsCounted (tells : Type 0) (bytes : List ℕ) (program : ProgramForm) (steps : ℕ) (start : Conf) (first : HostForm) (counts : RunCounts) : Type 0 where
  pub moments : List Moment
  pub end : MachineEnd
  pub conf : Conf
  pub left : HostForm
  pub stepped : Stepped tells program start first moments end conf left
  pub over : end ≡ OutOfSteps → length moments ≡ steps
  pub steps_taken : counts.steps ≡ length moments
  pub values : counts.values ≡ greatest (values_in left ∷ map (λ x. x.values) moments)
  pub records : counts.records ≡ text_of_value (left.shared.inner.specials Nr)
  pub lines : OfSource bytes (λ tokens script. AreFirsts tokens (places_counted script (nops_in program.whole) moments) counts.lines.items)

-- so of the run of a typed module in a job, from its beginning
pub record IsCountedOf (tells : Type 0) (bytes : List ℕ) (whole : ModuleForm) (job : JobForm) (steps : ℕ) (before : State) (counts : RunCounts) : Type 0 where
  pub machine : MachineForm
  pub is_new : IsNew host_finds whole machine
  pub start : HostForm
  pub begins : ShownFirst start job (before.readers 0) before.outside
  pub counted : IsCounted tells bytes machine.program steps machine.conf start counts

-- which some bytes are
pub record IsCountedOfBytes (tells : Type 0) (bytes compiled : List ℕ) (job : JobForm) (steps : ℕ) (before : State) (counts : RunCounts) : Type 0 where
  pub whole : ModuleForm
  pub read : IsModule compiled whole
  pub run : IsCountedOf tells bytes whole job steps before counts
