-- How often a script executes its statements, by what is counted of a run of its module.
use Rattle.std.specs.Prelude.{◌≡◌, ℕ, List}
use Rattle.world_core.specs.WorldState.{Action, State, after as outside_after}
use Rattle.wasm_model.specs.declared.ends.MachineEnd.{MachineEnd}
use Rattle.sem_primitives.specs.Jobs.{JobForm}
use Rattle.sem_scripts.specs.Kinds.{resolved}
use Rattle.sem_scripts.specs.Names.{Resolved}
use Rattle.sem_scripts.specs.ScriptRun.{setting_of}
use Rattle.run_report.specs.declared.counts.RunCounts.{RunCounts}
use Rattle.awk_run.specs.Counted.{IsCountedIn}
use Rattle.script_places.specs.Passes.{Moment}
use Rattle.run_modules.specs.Executions.{Choice, HasExecuted, times_begun, times_passed}

module _ {tells : Type 0} {bytes : List ℕ} {job : JobForm} {steps : ℕ} {before : State} {counts : RunCounts} (run : IsCountedIn tells bytes job steps before counts) where
  abbrev pub script_run : Resolved
  script_run = resolved run.is_compiled.script

  abbrev pub moments_of : List Moment
  moments_of = run.run.run.counted.moments

  abbrev pub end_of : MachineEnd
  end_of = run.run.run.counted.end

  abbrev pub begun_in : Choice → ℕ
  begun_in chosen =
      let r = run.run.run in
      times_begun tells r.machine.program r.machine.conf r.start chosen r.counted.moments r.counted.end r.counted.conf r.counted.left r.counted.stepped

  abbrev pub passed_by : Choice → ℕ
  passed_by chosen = times_passed chosen run.run.run.machine.program.whole moments_of

  -- what it has put out when it is cut off, by what the names hold, and that the script has executed what is chosen so often by then
  pub record ExecutesSoFar (chosen : Choice) (times : ℕ) : Type 0 where
    pub output : List Action
    pub holds : run.run.run.counted.left.shared.outside ≡ outside_after output before.outside
    pub has_executed : HasExecuted script_run (setting_of job (before.readers 0) before.outside) chosen output times
