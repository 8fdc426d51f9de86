-- Calls that a world hands on, and where its streams go after several calls.
use Rattle.std.specs.Prelude.{◌≡◌, ◌⊎◌, List, [], ◌∷◌}
use Rattle.world_core.specs.Traces.{Call, Opened, Wrote, Other, Targets, next_targets}

-- a call is handed on to a world inside, or it gives nothing, and the world inside is as it was
abbrev pub IsHandedOn : {W : Type 0} → (W → Call → W → Type 0) → W → Call → W → Type 0
IsHandedOn did old (Opened name append id) new = did old (Opened name append id) new
IsHandedOn did old (Wrote id bytes) new = did old (Wrote id bytes) new
IsHandedOn did old Other new = did old Other new ⊎ (new ≡ old)

abbrev pub targets_after : List Call → Targets → Targets
targets_after [] targets = targets
targets_after (call ∷ calls) targets = targets_after calls (next_targets call targets)
