-- What was told of a run is what the script does, where it and the module agree.
use Rattle.std.proofs.Common.{◌≡◌, ℕ, List, ◌++◌, Option, Some, None, refl, sym, ◌∙◌, subst, append_assoc, arith}
use Rattle.awk_values.specs.declared.fault.Fault.{Fault}
use Rattle.sem_primitives.specs.InputParts.{to_come}
use Rattle.sem_primitives.specs.Jobs.{Opened, JobForm, Closed, Environment}
use Rattle.world_core.specs.WorldState.{Action, Outside, Source}
use Rattle.wasm_types.specs.Syntax.{ModuleForm}
use Rattle.wasm_model.specs.declared.ends.MachineEnd.{MachineEnd}
use Rattle.wasm_model.specs.declared.ends.MachineEnd.TheVariants as machine
use Rattle.host_values.specs.Forms.{HostForm}
use Rattle.sem_scripts.specs.MoreTurns.{Grows, output_of}
use Rattle.sem_scripts.specs.ScriptRun.{Ending, Exhausted, GoesOn, Setting, setting_in}
use Rattle.agreement.specs.Modules.Agreement.{Agreement, Like, MayEnd, ModuleEnding, Trapped, ended_with, ending_told}
use Rattle.agreement.specs.Modules.Over.{IsOver}
use Rattle.agreement.specs.Runs.ToldRuns.{DoesSo, DoesSoThere, FoundRun, GoesOnThere, Says, Tells, TellsEnding, ToldRun}
use Rattle.agreement.specs.Runs.MachineEnds.{told_by}

-- what grows from more grows from less
grows_less : (a b xs : List Action) → Grows (a ++ b) xs → Grows a xs
grows_less a b xs g = (b ++ g.0, g.1 ∙ append_assoc a b g.0)

module _ (script : Setting → ℕ → Ending) (m : ModuleForm) (agree : Agreement script m) (job : JobForm) (input : Source) (outside : Environment) (steps : ℕ) where
  abbrev Does : Option Fault → MachineEnd → List Action → Type 0
  Does kept e output = (turns : ℕ) × Says (told_by kept e) output (script (setting_in job input outside) turns)

  -- the ending that is told
  the_ending : (kept : Option Fault) (e : MachineEnd) (output : List Action) (d : ModuleEnding) → ending_told kept e output ≡ Some d → TellsEnding m job input outside steps kept e output
      → MayEnd m job input outside steps d
  the_ending kept e output d is t = subst (λ (x : ModuleEnding). MayEnd m job input outside steps x) (same t.0 d (sym t.1 ∙ is)) t.2
    where
      same : (x y : ModuleEnding) → Some x ≡ Some y → x ≡ y
      same x y q = cc

  does : (kept : Option Fault) (e : MachineEnd) (output : List Action) → Tells m job input outside steps kept e output → Does kept e output
  does None (machine.Returned n) output t = agree.backward job input outside steps _ tt (the_ending None (machine.Returned n) output (Like (ended_with None n output)) refl t)
  does (Some f) (machine.Returned n) output t = agree.backward job input outside steps _ tt (the_ending (Some f) (machine.Returned n) output (Like (ended_with (Some f) n output)) refl t)
  does kept machine.Exhausted output t = agree.backward job input outside steps (Exhausted output) tt (the_ending kept machine.Exhausted output (Like (Exhausted output)) refl t)
  does kept machine.OutOfSteps output t = agree.output_module job input outside steps (Like (GoesOn output)) (the_ending kept machine.OutOfSteps output (Like (GoesOn output)) refl t)
  does kept (machine.Trapped kind) output t = absurd (agree.never_trapped job input outside steps kind output (the_ending kept (machine.Trapped kind) output (Trapped kind output) refl t))
  does kept machine.NoMemory output t =
      let g = agree.output_module job input outside t.0 t.2 t.5 in
      (g.0, grows_less output t.3 _ (subst (λ (o : List Action). Grows o (output_of (script (setting_in job input outside) g.0))) t.4 g.1))

-- over a modelled world
pub does_so : (script : Setting → ℕ → Ending) (m : ModuleForm) → Agreement script m → (job : JobForm) (input : Source) (outside : Outside) (steps : ℕ)
    (e : MachineEnd) (f : HostForm) → ToldRun m job input outside steps e f → DoesSo script job input outside (told_by f.fault e) f.shared.outside
does_so script m agree job input outside steps e f r =
    let d = does script m agree job input (Closed outside) steps f.fault e r.output r.tells in
    record { turns = d.0; output = r.output; says = d.1; applied = r.applied }

-- over any world, in an environment that others change too
pub does_so_there : (script : Setting → ℕ → Ending) (m : ModuleForm) → Agreement script m → (job : JobForm) (steps : ℕ) (e : MachineEnd) (f : HostForm)
    (output : List Action) (r : FoundRun m job steps e f output) → DoesSoThere script job r.finds (told_by f.fault e) output
does_so_there script m agree job steps e f output r =
    let d = does script m agree job to_come (Opened r.finds) steps f.fault e output r.tells in
    record { turns = d.0; says = d.1 }

same_ending : (output : List Action) (e : Ending) → Like (GoesOn output) ≡ Like e → e ≡ GoesOn output
same_ending output e q = cc

-- where its steps did not suffice, the script goes on there
pub goes_on_there : (script : Setting → ℕ → Ending) (m : ModuleForm) (agree : Agreement script m) (job : JobForm) (steps : ℕ) (e : MachineEnd)
    → e ≡ machine.OutOfSteps → (f : HostForm) (output : List Action) (r : FoundRun m job steps e f output)
    → GoesOnThere script job r.finds agree.bound steps
goes_on_there script m agree job steps e q f output r turns enough over =
    let s : Environment = Opened r.finds in
    let out : ModuleEnding = Like (GoesOn output) in
    let ends : Ending = script (setting_in job to_come s) turns in
    let t : TellsEnding m job to_come s steps f.fault machine.OutOfSteps output =
    subst (λ (x : MachineEnd). Tells m job to_come s steps f.fault x output) q r.tells in
    let x = agree.forward job to_come s turns ends over refl in
    let same = x.2 steps out (omega (arith, x.1)) (the_ending script m agree job to_come s steps f.fault machine.OutOfSteps output out refl t) in
    subst IsOver (same_ending output ends same) over
