-- What a call gave to its host's world.
use Rattle.std.proofs.Common.{◌≡◌, List, [], sym, ap, subst}
use Rattle.world_core.specs.Traces.{Call, Targets}
use Rattle.world_core.specs.WorldState.{Action}
use Rattle.host_streams.specs.Given.{AreTargets, Gives, GivesNone}
use Rattle.host_streams.specs.declared.streams.NamedWriter.{NamedWriter}
use Rattle.host_streams.proofs.Given.{none_still}
use Rattle.host_worlds.specs.declared.input.Input.{Input}
use Rattle.host_calls.specs.Calls.{Gave}
use Rattle.host_calls.specs.declared.host.Host.{Host}

module _ {W : Type 0} (did : W → Call → W → Type 0) (old new : W) (ws ws' : List NamedWriter) (none : GivesNone did old new) where
  -- where the streams that stay open go where they went
  pub gives_left : ((targets : Targets) → AreTargets ws targets → AreTargets ws' targets) → Gives did old new ws ws' []
  gives_left left = record {
    calls = none.calls;
    made = none.made;
    gives = λ targets are. none.gives targets;
    left = λ targets are. subst (AreTargets ws') (sym (none.same targets)) (left targets are);
  }

  -- where the same streams are open for writing
  pub gives_nothing : ws' ≡ ws → Gives did old new ws ws' []
  gives_nothing same = gives_left (λ targets are. subst (λ (open_now : List NamedWriter). AreTargets open_now targets) (sym same) are)

-- a call that leaves the world and the files as they are
pub gave_none : {W : Type 0} {g : _} (did : W → Call → W → Type 0) (before after-call : Host W g) → after-call.world ≡ before.world → after-call.input ≡ before.input
    → Gave did before after-call []
gave_none {W = W} did before after-call world input =
    gives_nothing did before.world after-call.world before.input.files.writers.items after-call.input.files.writers.items
    (subst (λ (w : W). GivesNone did before.world w) (sym world) (none_still did before.world)) (ap (λ (i : Input). i.files.writers.items) input)

-- what was given before a call was told
pub gave_told : {W : Type 0} {g : _} (did : W → Call → W → Type 0) (before between after-call : Host W g) → after-call.world ≡ between.world → after-call.input ≡ between.input
    → {P : List Action → Type 0} → (output : List Action) × Gave did before between output × P output → (output : List Action) × Gave did before after-call output × P output
gave_told {W = W} did before between after-call world input (output, gave, is) = (
  output,
  subst (λ (w : W). Gives did before.world w before.input.files.writers.items after-call.input.files.writers.items output) (sym world)
      (subst (λ (i : Input). Gives did before.world between.world before.input.files.writers.items i.files.writers.items output) (sym input) gave),
  is,
)
