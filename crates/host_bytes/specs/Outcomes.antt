-- What stops a function that has an outcome, and what texts that grow come to.
use Rattle.std.specs.Prelude.{◌≡◌, ℕ, ◌<◌, ◌≤◌, List, ◌++◌, length, Result, Ok, Err}
use Rattle.awk_values.specs.declared.fault.Fault.{Fault}
use Rattle.awk_values.specs.declared.fault.Fault.TheVariants.{TextLimit}
use Rattle.awk_values.specs.declared.fault.Stop.{Stop}
use Rattle.awk_values.specs.declared.fault.Stop.TheVariants as stops
use Rattle.sem_primitives.specs.Limits.{most_text}

-- a fault is the outcome's; memory runs out whatever the outcome is
abbrev pub IsStopOf : {A : Type 0} → Result A Fault → Stop → Type 0
IsStopOf outcome (stops.Fault fault) = outcome ≡ Err fault
IsStopOf outcome stops.NoMemory = Unit {0}

-- a text is too long, or memory ran out
abbrev pub IsPast : List ℕ → Stop → Type 0
IsPast text (stops.Fault fault) = (fault ≡ TextLimit) × (most_text < length text)
IsPast text stops.NoMemory = Unit {0}

-- a text is added, within the limit
pub record Adds (old new text : List ℕ) : Type 0 where
  pub added : new ≡ old ++ text
  pub within : length new ≤ most_text

-- the text of an outcome is added
abbrev pub AddsOutcome : List ℕ → List ℕ → Result (List ℕ) Fault → Type 0
AddsOutcome old new (Ok text) = Adds old new text
AddsOutcome old new (Err fault) = ⊥

-- the outcome is a fault, or its text makes the whole too long
abbrev pub IsStopAfter : List ℕ → Result (List ℕ) Fault → Stop → Type 0
IsStopAfter old (Ok text) stop = IsPast (old ++ text) stop
IsStopAfter old (Err fault) stop = IsStopOf {A = List ℕ} (Err fault) stop
