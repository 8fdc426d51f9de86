-- Telling that the actions of END begin is a step.
use Rattle.std.proofs.Common.{◌≡◌, ℕ, true, List, None, Result, Ok, Err, refl, ap}
use Rattle.sem_primitives.specs.SharedState.{Inner}
use Rattle.sem_primitives.specs.declared.table.Primitive.TheVariants as row
use Rattle.wasm_model.specs.declared.host.HostAnswer.TheVariants as told
use Rattle.wasm_store.specs.declared.trap.TrapKind.{TrapKind}
use Rattle.wasm_store.specs.declared.word.Word.{Word}
use Rattle.host_step.specs.Arguments.{and_then, no_more}
use Rattle.host_step.specs.HostStep.{carried}
use Rattle.host_imports.specs.declared.import.Import.TheVariants.{OfPrimitive}
use Rattle.host_step.specs.declared.refusal.Refusal.TheVariants as why
use Rattle.host_values.specs.ElementCalls.{IsTableCall}
use Rattle.host_values.specs.Forms.{HostForm, state_of}
use Rattle.host_values.proofs.ArraySteps.{carry, inner_at, no_word}
use Rattle.host_values.proofs.ElementSteps.{goes, leads, trapped, unrefused}

pub end_traps : (f : HostForm) (words : List Word) (memory : List ℕ) (k : TrapKind) → f.fault ≡ None → no_more words ≡ Err k → IsTableCall (OfPrimitive row.BeginEnd) f words memory (Err (why.Trap k)) f
end_traps f words memory k none ends =
    trapped (OfPrimitive row.BeginEnd) f words memory k (unrefused (OfPrimitive row.BeginEnd) f.fault none)
    (λ p past. ap (λ (r : Result (Unit {0}) TrapKind). carry (OfPrimitive row.BeginEnd) (state_of f p) (and_then r (λ end. Ok (end, (state_of f p).names)))) ends)

abbrev begun : Inner → Inner
begun inner = record inner { in_end = true }

abbrev pub form_begun : HostForm → HostForm
form_begun f = record f { shared = record f.shared { inner = begun f.shared.inner } }

pub end_begins : (f : HostForm) (words : List Word) (memory : List ℕ) → f.fault ≡ None → no_more words ≡ Ok tt → IsTableCall (OfPrimitive row.BeginEnd) f words memory (Ok None) (form_begun f)
end_begins f words memory none ends = leads (OfPrimitive row.BeginEnd) f words memory (told.Done None) (form_begun f) (λ p past. record {
  now = p;
  is = record { arrays = past.arrays; iterators = past.iterators; first = past.first };
  step = goes (OfPrimitive row.BeginEnd) f p (state_of (form_begun f) p) words memory (state_of f p).names (begun (inner_at f p)) tt 0 None (unrefused (OfPrimitive row.BeginEnd) f.fault none)
      (ap (λ ws. carried (OfPrimitive row.BeginEnd) ws memory (state_of f p)) (no_word words ends)) tt refl refl;
})
