-- The state at the start of a job.
use Rattle.std.specs.Prelude.{ℕ, pos, [], ◌∷◌}
use Rattle.world_core.specs.WorldState.{Outside, Source}
use Rattle.sem_primitives.specs.Jobs.{JobForm, Closed, Environment, fault_of_job, shared_in}
use Rattle.host_step.specs.HostState.{HostState, Names}
use Rattle.host_step.specs.Tables.{Table}

-- ARGV is 0 and ENVIRON is 1
abbrev pub first_arrays : Table ℕ
first_arrays = (pos 0, 0) ∷ (pos 1, 1) ∷ []

abbrev pub first_names : Names
first_names = record { values = []; arrays = first_arrays; iterators = [] }

-- No value has a handle, and no iterator is there; operands and environment are ARGV and ENVIRON; no fault is kept but `TextLimit`, where a text of
-- the job is past the limit. The standard input and what names hold are the world's.
abbrev pub state_in : JobForm → Source → Environment → HostState
state_in job input environment = record { names = first_names; shared = shared_in job input environment; arguments = []; fault = fault_of_job job }

-- where nobody else changes what names hold
abbrev pub state_at_start : JobForm → Source → Outside → HostState
state_at_start job input outside = state_in job input (Closed outside)
