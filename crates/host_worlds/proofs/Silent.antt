-- A trap of an import that puts nothing out, over a world.
use Rattle.std.proofs.Common.{◌≡◌, ℕ, List, [], None, Err, refl, sym, subst}
use Rattle.std.proofs.lemmas.List.{append-nil}
use Rattle.wasm_model.specs.declared.host.HostAnswer.TheVariants as told
use Rattle.wasm_store.specs.declared.trap.TrapKind.{TrapKind}
use Rattle.wasm_store.specs.declared.word.Word.{Word}
use Rattle.host_step.specs.HostStep.{StepOf, carried}
use Rattle.host_step.specs.Worlds.{with_output}
use Rattle.host_imports.specs.declared.import.Import.{Import}
use Rattle.host_step.specs.declared.refusal.Refusal.TheVariants as why
use Rattle.host_values.specs.Forms.{HostForm, Past, state_of}
use Rattle.host_values.proofs.ElementSteps.{trapped, traps, unrefused}
use Rattle.host_values.specs.Findings.{form_finding}
use Rattle.host_values.proofs.Found.{led_nothing}
use Rattle.host_values.specs.WorldCalls.{IsCalled}
use Rattle.host_worlds.proofs.ReadSteps.{form_output, leads_in}

pub silent_trap : (tells : Type 0) (i : Import) (f : HostForm) (words : List Word) (memory : List ℕ) (k : TrapKind) → f.fault ≡ None
    → ((g : HostForm) (p : Past) → carried i words memory (state_of g p) ≡ Err k) → IsCalled tells i f words memory (Err (why.Trap k)) f []
silent_trap tells i f words memory k none e = (
  leads_in tells i f f words memory (told.Trap k) refl refl (λ p past. record {
    typed = tt;
    step = λ y o. subst (λ q. StepOf i (state_of (form_output o f) p) words memory (told.Trap k) (with_output q (state_of f p)) []) (sym (append-nil o))
        (traps i (form_output o f) p words memory k (unrefused i f.fault none) (e (form_output o f) p));
  }),
  led_nothing i f f words memory (told.Trap k) (λ finds outside so_far.
      let g = form_finding finds outside so_far f in
      trapped i g words memory k (unrefused i f.fault none) (λ p past. e g p)),
)
