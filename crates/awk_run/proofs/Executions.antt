-- A script with marks puts out more by what the moments of its run have: so often it executes what is marked.
use Rattle.std.proofs.Common.{◌≡◌, ℕ, ◌+◌, Bool, true, false, cond, List, [], ◌∷◌, length, append-nil, length-append, refl, sym, ap, ap₂, ◌∙◌, subst, arith}
use Rattle.sem_primitives.specs.Jobs.{Closed, JobForm}
use Rattle.world_core.specs.WorldState.{Action, State, after as outside_after}
use Rattle.wasm_types.specs.ModuleGrammar.{IsModule}
use Rattle.wasm_types.specs.Syntax.{Instructions, ModuleForm, Plain, Then}
use Rattle.wasm_types.specs.declared.instr.Simple.TheVariants.{Nop}
use Rattle.wasm_model.specs.Frames.{settled_code}
use Rattle.wasm_model.specs.Links.{IsNew}
use Rattle.wasm_model.specs.Machines.{Conf, ProgramForm}
use Rattle.wasm_model.specs.Runs.{MachineForm}
use Rattle.wasm_model.specs.declared.ends.MachineEnd.{MachineEnd}
use Rattle.wasm_model.specs.declared.ends.MachineEnd.TheVariants.{Exhausted, NoMemory, OutOfSteps, Returned, Trapped}
use Rattle.module_decoder.proofs.CompleteModule.{one_module}
use Rattle.host_imports.specs.Imports.{host_finds}
use Rattle.host_step.specs.HostState.{HostState}
use Rattle.host_step.specs.Starts.{state_at_start}
use Rattle.host_values.specs.Forms.{HostForm}
use Rattle.host_values.specs.Shown.{Shown, form_with_output}
use Rattle.host_values.proofs.Showing.{shown_outside, shown_output}
use Rattle.sem_scripts.specs.Kinds.{resolved}
use Rattle.sem_scripts.specs.MoreTurns.{Grows, output_of}
use Rattle.sem_scripts.specs.Names.{Resolved}
use Rattle.sem_scripts.specs.ScriptRun.{Ending, Setting, resolved_run, setting_of}
use Rattle.agreement.specs.Modules.Over.{IsOver}
use Rattle.agreement.specs.Passed.Passed.{Passes, Probe, ProbedRun, ProbedSteps, no_probe}
use Rattle.agreement.specs.Spots.Marked.{Marks, marked_run}
use Rattle.agreement.specs.Spots.Probed.{probed_script}
use Rattle.agreement.proofs.RunsLemmas.Following.{ShownAfter}
use Rattle.agreement.proofs.RunsLemmas.Outsides.{steps_make}
use Rattle.agreement.proofs.SpotsLemmas.Silent.{silent_run}
use Rattle.agreement.specs.Places.NoLeaks.{Reached}
use Rattle.agreement.proofs.ModulesLemmas.Agreeing.{agreement}
use Rattle.lower_model.specs.Modules.{module_of}
use Rattle.lower_model.proofs.CodeFollows.{code_follows}
use Rattle.script_compiler.specs.Compiled.{IsCompiled}
use Rattle.run_report.specs.declared.counts.RunCounts.{RunCounts}
use Rattle.run_modules.specs.Counted.{IsCountedOf, Stepped}
use Rattle.awk_run.specs.Counted.{IsCountedIn}
use Rattle.script_places.specs.Passes.{Moment}
use Rattle.run_modules.specs.Executions.{Choice, ComesToEnd, Executes, HasExecuted, begun_at, marking, times_begun, times_passed}
use Rattle.awk_run.specs.Executions.{ExecutesSoFar, begun_in, end_of, passed_by, script_run}
use Rattle.run_modules.proofs.PassedPlaces.{none_passed, one_more_passed, one_passed, settled_same}
use Rattle.run_modules.proofs.Settling.{none_settled}
use Rattle.run_modules.proofs.Executing.{added, added_at, ended, leads}

-- What marks add.

mark_size : (mark : Action) (b : Bool) → length (cond b (mark ∷ []) []) ≡ cond {A = ℕ} b 1 0
mark_size mark true = refl
mark_size mark false = refl

marks_at : (mark : Action) (chosen : Choice) (code : Instructions) → added_at (marking mark chosen) code ≡ begun_at chosen code
marks_at mark chosen (Then (Plain Nop) code) = mark_size mark (chosen (Then (Plain Nop) code))
marks_at mark chosen code = refl

marks_added : (tells : Type 0) (m : ProgramForm) (c : Conf) (h : HostForm) (mark : Action) (chosen : Choice) (xs : List Moment) (e : MachineEnd) (c' : Conf) (h' : HostForm)
    (r : Stepped tells m c h xs e c' h') → added tells m c h (marking mark chosen) xs e c' h' r ≡ times_begun tells m c h chosen xs e c' h' r
marks_added tells m c h mark chosen [] e c' h' r = refl
marks_added tells m c h mark chosen (x ∷ xs) e c' h' r =
    ap₂ (λ (a b : ℕ). a + b) (marks_added tells m c h mark chosen xs OutOfSteps r.0 r.1 r.2) (marks_at mark chosen (settled_code r.0.frame.code))

-- a script with a probe that adds nothing does what it does
unmarked : (script : Resolved) (s : Setting) (turns : ℕ) → probed_script script no_probe s turns ≡ resolved_run script s turns
unmarked script s turns = ap (λ (ms : Marks). marked_run ms script s turns) (λ i. λ home spot output. append-nil output i) ∙ silent_run script s turns

module _ (bytes compiled : List ℕ) (made : IsCompiled bytes compiled) (whole : ModuleForm) (spelled : IsModule compiled whole) (tells : Type 0) (t : tells) (job : JobForm)
    (before : State) (a : MachineForm) (new : IsNew host_finds whole a) (start : HostForm) (begins : Shown start (state_at_start job (before.readers 0) before.outside)) where
  abbrev set : Setting
  set = setting_of job (before.readers 0) before.outside

  abbrev first : HostState
  first = state_at_start job (before.readers 0) before.outside

  abbrev script : Resolved
  script = resolved made.script

  begins_so : ShownAfter [] start first
  begins_so = subst (λ (o : List Action). Shown (form_with_output o start) first) (sym (shown_output start first begins)) begins

  passes : Passes (probed_script script) whole
  passes = subst (Passes (probed_script script)) (one_module compiled made.whole whole made.spelled spelled) made.passes

  probed_run : (probe : Probe) (n : ℕ) (c : Conf) (s : HostState) (o : List Action) → ProbedSteps probe a.program n a.conf first [] c s o
      → ProbedRun probe whole job (before.readers 0) (Closed before.outside) n a c s o
  probed_run probe n c s o steps = record { is_new = new; taken = steps }

  -- of a run that came to its end
  pub executes : (chosen : Choice) (xs : List Moment) (e : MachineEnd) (c' : Conf) (h' : HostForm) (r : Stepped tells a.program a.conf start xs e c' h') → ComesToEnd e
      → Executes script set chosen (times_begun tells a.program a.conf start chosen xs e c' h' r)
  executes chosen xs e c' h' r comes =
      let l = ended tells t a.program a.conf start first begins_so xs e c' h' r comes in
      let o = passes.ended no_probe job (before.readers 0) (Closed before.outside) l.way.steps a l.there l.way.state l.way.output
      (probed_run no_probe l.way.steps l.there l.way.state l.way.output l.way.plain) l.end e l.ends l.told_so in
      let same = unmarked script set o.0 in
      let own : length (output_of (resolved_run script set o.0)) ≡ length l.way.output =
      ap (λ (x : Ending). length (output_of x)) (sym same) ∙ ap (λ (x : List Action). length x) o.2 in
      record {
        turns = o.0;
        over = subst IsOver same o.1;
        marked = λ mark.
            let p = l.way.probed (marking mark chosen) in
            let q = passes.ended (marking mark chosen) job (before.readers 0) (Closed before.outside) l.way.steps a l.there l.way.state p.0
            (probed_run (marking mark chosen) l.way.steps l.there l.way.state p.0 p.1) l.end e l.ends l.told_so in
            let out = ap (λ (x : List Action). length x) q.2 in
            let size = p.2 in
            let marks = marks_added tells a.program a.conf start mark chosen xs e c' h' r in
            (q.0, q.1, omega (arith, out, size, marks, own));
      }

  -- of a run that is cut off
  pub has_executed : (chosen : Choice) (xs : List Moment) (c' : Conf) (h' : HostForm) (r : Stepped tells a.program a.conf start xs OutOfSteps c' h')
      → (output : List Action) × (h'.shared.outside ≡ outside_after output before.outside)
      × HasExecuted script set chosen output (times_begun tells a.program a.conf start chosen xs OutOfSteps c' h' r)
  has_executed chosen xs c' h' r =
      let l = leads tells t a.program a.conf start first begins_so xs c' h' r in
      let o = passes.so_far no_probe job (before.readers 0) (Closed before.outside) l.steps a c' l.state l.output
      (probed_run no_probe l.steps c' l.state l.output l.plain) in
      let same = unmarked script set o.0 in (
        l.output,
        sym (shown_outside (form_with_output l.output h') l.state l.shows) ∙ steps_make a.program l.steps a.conf first l.output c' l.state l.taken,
        record {
          turns = o.0;
          puts = subst (λ (x : Ending). Grows l.output (output_of x)) same o.1;
          marked = λ mark.
              let p = l.probed (marking mark chosen) in
              let q = passes.so_far (marking mark chosen) job (before.readers 0) (Closed before.outside) l.steps a c' l.state p.0
              (probed_run (marking mark chosen) l.steps c' l.state p.0 p.1) in
              let out = ap (λ (x : List Action). length x) q.1.1 in
              let both = length-append p.0 q.1.0 in
              let size = p.2 in
              let marks = marks_added tells a.program a.conf start mark chosen xs OutOfSteps c' h' r in
              (q.0, omega (arith, out, both, size, marks));
        },
      )

  -- The chosen places were passed before as many steps as the code that came next began so: no constant stands before a statement.
  pub passed_begin : (chosen : Choice) (xs : List Moment) (e : MachineEnd) (c' : Conf) (h' : HostForm) (r : Stepped tells a.program a.conf start xs e c' h')
      → times_passed chosen a.program.whole xs ≡ times_begun tells a.program a.conf start chosen xs e c' h' r
  passed_begin chosen [] e c' h' r = none_passed chosen a.program.whole
  passed_begin chosen (x ∷ xs) e c' h' r =
      let rest = passed_begin chosen xs OutOfSteps r.0 r.1 r.2 in
      let more = one_more_passed chosen a.program.whole x xs in
      let one = one_passed chosen a.program.whole x r.0.frame r.3 in
      let l = leads tells t a.program a.conf start first begins_so xs r.0 r.1 r.2 in
      let here : Reached whole job (before.readers 0) (Closed before.outside) a r.0 l.state =
      record { is_new = new; steps = l.steps; output = l.output; taken = l.taken } in
      let is : whole ≡ module_of made.code = one_module compiled whole made.whole spelled made.spelled ∙ made.whole_is in
      let there = subst (λ (m : ModuleForm). Reached m job (before.readers 0) (Closed before.outside) a r.0 l.state) is here in
      let agree = agreement made.code (code_follows made.code made.sorted) in
      let settles = settled_same chosen r.0.frame.code
      (λ b. none_settled made.code agree job (before.readers 0) (Closed before.outside) a r.0 l.state there b) in
      omega (arith, rest, more, one, settles)

-- Of a counted run.

module _ (tells : Type 0) (t : tells) (bytes : List ℕ) (job : JobForm) (steps : ℕ) (before : State) (counts : RunCounts)
    (run : IsCountedIn tells bytes job steps before counts) where
  abbrev of : IsCountedOf tells bytes run.run.whole job steps before counts
  of = run.run.run

  abbrev setting : Setting
  setting = setting_of job (before.readers 0) before.outside

  pub executed : ComesToEnd (end_of run) → (chosen : Choice) → Executes (script_run run) setting chosen (begun_in run chosen)
  executed comes chosen =
      executes bytes run.compiled run.is_compiled run.run.whole run.run.read tells t job before of.machine of.is_new of.start of.begins.kept chosen
      of.counted.moments of.counted.end of.counted.conf of.counted.left of.counted.stepped comes

  pub cut_off : end_of run ≡ OutOfSteps → (chosen : Choice) → ExecutesSoFar run chosen (begun_in run chosen)
  cut_off is chosen = by of.counted.end is of.counted.stepped
    where
      by : (e : MachineEnd) → e ≡ OutOfSteps → (r : Stepped tells of.machine.program of.machine.conf of.start of.counted.moments e of.counted.conf of.counted.left)
          → ExecutesSoFar run chosen
          (times_begun tells of.machine.program of.machine.conf of.start chosen of.counted.moments e of.counted.conf of.counted.left r)
      by OutOfSteps q r =
          let x = has_executed bytes run.compiled run.is_compiled run.run.whole run.run.read tells t job before of.machine of.is_new of.start of.begins.kept chosen
          of.counted.moments of.counted.conf of.counted.left r in
          record { output = x.0; holds = x.1; has_executed = x.2 }
      by (Returned n) q r = cc
      by (Trapped k) q r = cc
      by Exhausted q r = cc
      by NoMemory q r = cc

  same : (chosen : Choice) → begun_in run chosen ≡ passed_by run chosen
  same chosen =
      sym (passed_begin bytes run.compiled run.is_compiled run.run.whole run.run.read tells t job before of.machine of.is_new of.start of.begins.kept chosen of.counted.moments
      of.counted.end of.counted.conf of.counted.left of.counted.stepped)

  pub executed_as_passed : ComesToEnd (end_of run) → (chosen : Choice) → Executes (script_run run) setting chosen (passed_by run chosen)
  executed_as_passed comes chosen = subst (Executes (script_run run) setting chosen) (same chosen) (executed comes chosen)

  pub cut_off_as_passed : end_of run ≡ OutOfSteps → (chosen : Choice) → ExecutesSoFar run chosen (passed_by run chosen)
  cut_off_as_passed is chosen = subst (ExecutesSoFar run chosen) (same chosen) (cut_off is chosen)
