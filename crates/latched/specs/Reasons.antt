-- What is written piece by piece and keeps the first reason why it takes no more.
use Rattle.std.specs.Prelude.{◌≡◌, Option, Some, None}

-- this holds where nothing is refused, and else that of the reason
abbrev pub Stands : {E : Type 0} → Type 0 → (E → Type 0) → Option E → Type 0
Stands fine refused None = fine
Stands fine refused (Some reason) = refused reason

-- the same of what comes next, where nothing was refused before; what was refused before stays
abbrev pub StandsAfter : {E : Type 0} → Type 0 → (E → Type 0) → Option E → Option E → Type 0
StandsAfter fine refused None now = Stands fine refused now
StandsAfter fine refused (Some reason) now = now ≡ Some reason
