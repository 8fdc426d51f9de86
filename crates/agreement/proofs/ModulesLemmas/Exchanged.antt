-- Agreement speaks of what a script does alone.
use Rattle.std.proofs.Common.{◌≡◌, ℕ, sym, ◌∙◌, subst}
use Rattle.wasm_types.specs.Syntax.{ModuleForm}
use Rattle.sem_scripts.specs.MoreTurns.{Grows, output_of}
use Rattle.sem_scripts.specs.ScriptRun.{Setting, Ending, setting_in}
use Rattle.agreement.specs.Modules.Agreement.{Agreement, output_in}

-- two that do the same agree with the same modules
pub agreement_as : (f g : Setting → ℕ → Ending) (m : ModuleForm) → ((s : Setting) (turns : ℕ) → f s turns ≡ g s turns) → Agreement f m → Agreement g m
agreement_as f g m same a = record {
  bound = a.bound;
  one_run = a.one_run;
  forward = λ job input outside turns e over does. a.forward job input outside turns e over (same (setting_in job input outside) turns ∙ does);
  backward = λ job input outside steps e over r. let h = a.backward job input outside steps e over r in (h.0, sym (same (setting_in job input outside) h.0) ∙ h.1);
  never_trapped = a.never_trapped;
  output_module = λ job input outside steps e r.
      let h = a.output_module job input outside steps e r in
      (h.0, subst (λ (x : Ending). Grows (output_in e) (output_of x)) (same (setting_in job input outside) h.0) h.1);
  output_script = λ job input outside turns.
      let h = a.output_script job input outside turns in
      (h.0, h.1, λ steps e le r. subst (λ (x : Ending). Grows (output_of x) (output_in e)) (same (setting_in job input outside) turns) (h.2 steps e le r));
}
