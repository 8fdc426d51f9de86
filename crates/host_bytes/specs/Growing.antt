-- Texts that grow, and remember why they take no more.
use Rattle.std.specs.Prelude.{◌≡◌, ℕ, List, Option, Some, None, Result, Ok, Err}
use Rattle.std.specs.Global.{Vec}
use Rattle.awk_values.specs.declared.fault.Fault.{Fault}
use Rattle.awk_values.specs.declared.fault.Stop.{Stop}
use Rattle.host_bytes.specs.Outcomes.{AddsOutcome, IsStopAfter, IsStopOf}
use Rattle.host_bytes.specs.declared.growing.Growing.{Growing}

-- the text of an outcome is added, or this is why not
abbrev pub Stands : Option Stop → List ℕ → List ℕ → Result (List ℕ) Fault → Type 0
Stands None old new outcome = AddsOutcome old new outcome
Stands (Some stop) old new outcome = IsStopAfter old outcome stop

-- the same behind what stopped it before, which stays
abbrev pub StandsAfter : Option Stop → Option Stop → List ℕ → List ℕ → Result (List ℕ) Fault → Type 0
StandsAfter None now old new outcome = Stands now old new outcome
StandsAfter (Some stop) now old new outcome = now ≡ Some stop

-- between the two the text of an outcome was added
pub record Grows (old new : Growing) (outcome : Result (List ℕ) Fault) : Type 0 where
  pub stands : StandsAfter old.stop new.stop old.bytes.items new.bytes.items outcome

-- an empty text grew to that of an outcome, or this is why not
abbrev pub IsMade : Option Stop → List ℕ → Result (List ℕ) Fault → Type 0
IsMade None bytes outcome = outcome ≡ Ok bytes
IsMade (Some stop) bytes outcome = IsStopOf outcome stop

-- all of a text, or why it stopped
abbrev pub IsAllOf : Growing → Result (Vec ℕ) Stop → Type 0
IsAllOf text (Ok bytes) = (text.stop ≡ None) × (bytes.items ≡ text.bytes.items)
IsAllOf text (Err stop) = text.stop ≡ Some stop
