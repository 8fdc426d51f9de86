-- What the module of a script did is what the script does.
use Rattle.std.proofs.Common.{◌≡◌, inl, inr, ℕ, ◌+◌, List, [], ◌∷◌, map, Option, Some, None, refl, sym, ap, ◌∙◌, subst}
use Rattle.awk_values.specs.declared.fault.Fault.{Fault}
use Rattle.sem_primitives.specs.InputParts.{to_come}
use Rattle.sem_primitives.specs.Jobs.{Opened, JobForm}
use Rattle.world_core.specs.WorldState.{Action, State}
use Rattle.sem_scripts.specs.Kinds.{resolved}
use Rattle.sem_scripts.specs.ScriptRun.{Ending, resolved_run, setting_in}
use Rattle.sem_scripts.specs.RunOf.{run_of}
use Rattle.wasm_types.specs.Syntax.{ModuleForm}
use Rattle.wasm_types.specs.ModuleGrammar.{IsModule}
use Rattle.wasm_types.specs.Typing.{ModuleOk}
use Rattle.wasm_model.specs.Links.{first_none}
use Rattle.wasm_model.specs.declared.fault.LinkFault.{LinkFault}
use Rattle.wasm_model.specs.declared.fault.LinkFault.TheVariants as link
use Rattle.wasm_model.specs.declared.ends.MachineEnd.{MachineEnd}
use Rattle.wasm_model.specs.declared.ends.MachineEnd.TheVariants as machine
use Rattle.module_decoder.proofs.CompleteModule.{one_module}
use Rattle.agreement.specs.Runs.ToldRuns.{DoesSo, Says}
use Rattle.agreement.specs.Runs.MachineEnds.{told_by}
use Rattle.agreement.proofs.RunsLemmas.Agreeing.{does_so, does_so_there, goes_on_there}
use Rattle.script_compiler.specs.Compiled.{IsCompiled, Links}
use Rattle.run_modules.specs.ModuleRun.{Answers, HasRun, IsRunOf, IsUnlinked, run_end, run_output}
use Rattle.awk_run.specs.ScriptRuns.{DoesFound, IsScriptRun, ScriptAnswers, told_of}
use Rattle.run_report.specs.declared.end.Refusal.TheVariants.{Compile, Decode, Invalid, Link}
use Rattle.run_report.specs.declared.end.RunEnd.{RunEnd}
use Rattle.run_report.specs.declared.end.RunEnd.TheVariants as run
use Rattle.run_modules.proofs.Runs.{has_so, untouched_so}

-- what a machine's end says of a script, its answer says
says : (kept : Option Fault) (t : MachineEnd) (output : List Action) (ending : Ending) → Says (told_by kept t) output ending
    → Says (told_of (run_end kept t)) output ending
says (Some f) (machine.Returned n) output ending h = h
says None (machine.Returned n) output ending h = h
says kept machine.Exhausted output ending h = h
says kept machine.OutOfSteps output ending h = h
says kept machine.NoMemory output ending h = h
says kept (machine.Trapped kind) output ending h = absurd h

-- what an answer says of the script and of the world
abbrev Does : {bytes v : List ℕ} → IsCompiled bytes v → JobForm → State → RunEnd → State → Type 0
Does c job before e after = DoesSo (resolved_run (resolved c.script)) job (before.readers 0) before.outside (told_of e) after.outside

-- a run of the module, as the script's
did : (tells : Type 0) (given : List Action → Type 0) (bytes v : List ℕ) (c : IsCompiled bytes v) (job : JobForm) (steps : ℕ) (before after : State) (e : RunEnd)
    → IsRunOf tells given c.whole job steps before e after → tells → Does c job before e after
did tells given bytes v c job steps before after e r t =
    let d = does_so (resolved_run (resolved c.script)) c.whole c.agreement job (before.readers 0) before.outside steps r.told r.left (r.over_table t) in
    record {
      turns = d.turns;
      output = d.output;
      says = subst (λ (x : RunEnd). Says (told_of x) d.output (run_of c.script job (before.readers 0) before.outside d.turns)) (sym r.answered)
          (says r.left.fault r.told d.output _ d.says);
      applied = r.outside ∙ d.applied;
    }

-- an answer that the steps did not suffice is told of a machine that went on
ran_out : (kept : Option Fault) (t : MachineEnd) → run_end kept t ≡ run.OutOfSteps → t ≡ machine.OutOfSteps
ran_out (Some f) (machine.Returned n) q = cc
ran_out None (machine.Returned n) q = cc
ran_out kept machine.Exhausted q = cc
ran_out kept machine.OutOfSteps q = refl
ran_out kept machine.NoMemory q = cc
ran_out kept (machine.Trapped kind) q = cc

-- and in every world, where it finds what some list says
there : (tells : Type 0) (given : List Action → Type 0) (bytes v : List ℕ) (c : IsCompiled bytes v) (job : JobForm) (steps : ℕ) (before after : State) (e : RunEnd)
    (r : IsRunOf tells given c.whole job steps before e after) → DoesFound (resolved_run (resolved c.script)) job c.agreement.bound steps e (run_output r)
there tells given bytes v c job steps before after e r =
    let script = resolved_run (resolved c.script) in
    let found = r.there in
    let out = run_output r in
    let d = does_so_there script c.whole c.agreement job steps r.told r.left out found in
    record {
      finds = found.finds;
      does = record {
        turns = d.turns;
        says = subst (λ (x : RunEnd). Says (told_of x) out (script (setting_in job to_come (Opened found.finds)) d.turns)) (sym r.answered)
            (says r.left.fault r.told out _ d.says);
      };
      goes_on = λ ended. goes_on_there script c.whole c.agreement job steps r.told (ran_out r.left.fault r.told (sym r.answered ∙ ended)) r.left out found;
    }

-- Refusals that a compiled script does not meet.

all_there : (ns : List ℕ) → first_none (map Some ns) ≡ None
all_there [] = refl
all_there (n ∷ ns) = ap (λ (x : Option ℕ). elim x [ None ↦ None | Some i ↦ Some (i + 1) ]) (all_there ns)

links_fully : (m : ModuleForm) (f : LinkFault) → Links m → IsUnlinked m f → ⊥
links_fully m link.NoMain l r = let x : Some l.main ≡ None = sym l.main_is ∙ r.1 in cc
links_fully m (link.BadImport i) l r = let x : Some i ≡ None = sym r.1.1 ∙ (ap first_none l.imports ∙ all_there l.numbers) in cc
links_fully m link.SegmentBounds l r = r.1.2 l.segments
links_fully m link.NoMemory l r = r.0 refl

-- What is answered.

module _ (tells : Type 0) (given : List Action → Type 0) (bytes v : List ℕ) (job : JobForm) (steps : ℕ) (before after : State) (c : IsCompiled bytes v) where
  same : (h : ModuleForm) → IsModule v h → h ≡ c.whole
  same h r = one_module v h c.whole r c.spelled

  -- what the module did, and so the script
  abbrev AsScript : (e : RunEnd) (whole : ModuleForm) → IsRunOf tells given whole job steps before e after → Type 0
  AsScript e whole r = (tells → Does c job before e after) × DoesFound (resolved_run (resolved c.script)) job c.agreement.bound steps e (run_output r)

  as_script : (e : RunEnd) (whole : ModuleForm) → c.whole ≡ whole → (r : IsRunOf tells given whole job steps before e after) → AsScript e whole r
  as_script e whole is = subst (λ (w : ModuleForm). (r : IsRunOf tells given w job steps before e after) → AsScript e w r) is (λ r. (
    did tells given bytes v c job steps before after e r,
    there tells given bytes v c job steps before after e r,
  ))

  ran_run : (e : RunEnd) → HasRun tells given v job steps before e after → IsScriptRun tells given bytes job steps before e after
  ran_run e h =
      let x = as_script e h.whole (sym (same h.whole h.read)) h.run in
      record { compiled = v; is_compiled = c; ran = h; does = x.0; there = x.1 }

  pub script_answers : (e : RunEnd) → Answers tells given v job steps before e after → ScriptAnswers tells given bytes job steps before e after
  script_answers (run.Refused (Compile f)) r = absurd r
  script_answers (run.Refused (Decode f)) r = r.0.1 c.whole c.spelled
  script_answers (run.Refused (Invalid f)) r = r.0.untyped (subst ModuleOk (sym (same r.0.whole r.0.read)) c.typed)
  script_answers (run.Refused (Link f)) r = links_fully c.whole f c.links (subst (λ (w : ModuleForm). IsUnlinked w f) (same r.0.whole r.0.read) r.0.unlinked)
  script_answers run.NoMemory (inl h) = inl (ran_run run.NoMemory h)
  script_answers run.NoMemory (inr e) = inr e
  script_answers (run.Ended n) h = ran_run (run.Ended n) h
  script_answers (run.Faulted f) h = ran_run (run.Faulted f) h
  script_answers run.OutOfSteps h = ran_run run.OutOfSteps h
  script_answers run.Exhausted h = ran_run run.Exhausted h
  script_answers (run.Trapped k) h = ran_run (run.Trapped k) h

-- what was known of an output, so that something else is
module _ (tells : Type 0) (given known : List Action → Type 0) (so : (output : List Action) → given output → known output) (bytes : List ℕ) (job : JobForm)
    (steps : ℕ) (before after : State) where
  script_so : (e : RunEnd) → IsScriptRun tells given bytes job steps before e after → IsScriptRun tells known bytes job steps before e after
  script_so e r = record {
    compiled = r.compiled;
    is_compiled = r.is_compiled;
    ran = has_so tells given known so r.compiled job steps before after e r.ran;
    does = r.does;
    there = r.there;
  }

  pub script_answers_so : (e : RunEnd) → ScriptAnswers tells given bytes job steps before e after → ScriptAnswers tells known bytes job steps before e after
  script_answers_so (run.Refused (Compile f)) r = (r.0, r.1, untouched_so given known so before after r.2)
  script_answers_so (run.Refused (Decode f)) r = r
  script_answers_so (run.Refused (Invalid f)) r = r
  script_answers_so (run.Refused (Link f)) r = r
  script_answers_so run.NoMemory (inl r) = inl (script_so run.NoMemory r)
  script_answers_so run.NoMemory (inr u) = inr (untouched_so given known so before after u)
  script_answers_so (run.Ended n) r = script_so (run.Ended n) r
  script_answers_so (run.Faulted f) r = script_so (run.Faulted f) r
  script_answers_so run.OutOfSteps r = script_so run.OutOfSteps r
  script_answers_so run.Exhausted r = script_so run.Exhausted r
  script_answers_so (run.Trapped k) r = script_so (run.Trapped k) r
