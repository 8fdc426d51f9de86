-- Two runs of one machine, of which the first paused, are one run of all its steps.
use Rattle.std.proofs.Common.{◌≡◌, ◌≢◌, ◌≤◌, ◌+◌, ◌-◌, ℕ, false, Option, Some, None, subst, arith}
use Rattle.std.specs.Prelude.{IfSome}
use Rattle.wasm_model.specs.Hosts.{Meaning}
use Rattle.wasm_model.specs.Machines.{Asks, Conf, Ends, Goes, ProgramForm, Turn, turn}
use Rattle.wasm_model.specs.Runs.{Steps, TakenAs}
use Rattle.wasm_model.specs.MachineRuns.{Did}
use Rattle.wasm_model.specs.declared.ends.MachineEnd.{MachineEnd}
use Rattle.wasm_model.specs.declared.ends.MachineEnd.TheVariants as told
use Rattle.wasm_model.proofs.Chains.{did_less, did_on}
use Rattle.wasm_machine.specs.StateStretches.{CalledLast}
use Rattle.wasm_loader.proofs.Options.{not_some}
use Rattle.host_calls.specs.Pauses.{keeps_fault}
use Rattle.host_values.specs.Forms.{HostForm}
use Rattle.host_values.specs.FormMeaning.{FormState, Told, Untold, form_meaning}
use Rattle.run_modules.specs.FaultStep.{FaultStep}

module _ {H O : Type 0} (M : Meaning H O) (m : ProgramForm) (steps left : ℕ) (within : left ≤ steps) (c : Conf) (h : H) (c1 : Conf) (h1 : H) where
  all : (steps - left) + left ≡ steps
  all = omega (arith, within)

  -- it went on
  pub went_on : (e : MachineEnd) (c2 : Conf) (h2 : H) → Did M m (steps - left) c h told.OutOfSteps c1 h1 → Did M m left c1 h1 e c2 h2 → Did M m steps c h e c2 h2
  went_on e c2 h2 d f = subst (λ (n : ℕ). Did M m n c h e c2 h2) all (did_on M m (steps - left) left c h c1 h1 e c2 h2 d f)

  -- it was over
  pub was_over : (e : MachineEnd) → e ≢ told.OutOfSteps → Did M m (steps - left) c h e c1 h1 → Did M m steps c h e c1 h1
  was_over e over d = subst (λ (n : ℕ). Did M m n c h e c1 h1) all (did_less M m (steps - left) left c h e c1 h1 over d)

-- what holds of a value, if there is one
pub of_some : {A : Type 0} {P Q : A → Type 0} (found : Option A) → ((x : A) → P x → Q x) → IfSome found P → IfSome found Q
of_some None f h = tt
of_some (Some x) f h = f x h

-- the call of the host that was the last step, of the steps that were taken
pub fault_step : (tells : Type 0) (m : ProgramForm) (steps left : ℕ) (c : Conf) (first : HostForm) (d : Conf) (last : HostForm)
    → CalledLast (form_meaning tells) m keeps_fault steps left c (Told first) d (Told last) → FaultStep tells m (steps - left) c first d last
fault_step tells m steps left c first d last l = by l.3 l.4.3 l.5 l.7 where
  by : (h : FormState) → Steps (form_meaning tells) m l.4.1 c (Told first) l.4.0 l.2 h → keeps_fault h ≡ false
      → TakenAs (form_meaning tells) (turn m l.2) h l.2.memory l.6 d (Told last) → FaultStep tells m (steps - left) c first d last
  by (Told form) ran none taken =
      let one = l.1 in
      let all = l.4.2 in
      record {
        before = l.4.1;
        one_more = omega (arith, one, all);
        reached = l.2;
        host = form;
        output = l.4.0;
        ran = ran;
        none = not_some form.fault none;
        added = l.6;
        taken = taken;
      }
  by Untold ran none taken = absurd (untold (turn m l.2) taken) where
    untold : (t : Turn) → TakenAs (form_meaning tells) t Untold l.2.memory l.6 d (Told last) → ⊥
    untold (Goes e) t = (let same : Told last ≡ Untold = t.1 in cc)
    untold (Ends e) t = t
    untold (Asks i args e) t = t.1
