-- The state at the start of a job whose files nobody else changes.
use Rattle.world_core.specs.WorldState.{Outside, Source}
use Rattle.sem_primitives.specs.SharedState.{Shared}
use Rattle.sem_primitives.specs.Jobs.{JobForm, Closed, shared_in}

-- where nobody else changes what names hold
abbrev pub shared_at_start : JobForm → Source → Outside → Shared
shared_at_start job input outside = shared_in job input (Closed outside)
