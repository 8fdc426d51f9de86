-- The host's state with another part that is shared.
use Rattle.sem_primitives.specs.SharedState.{Inner}
use Rattle.host_step.specs.HostState.{HostState}

abbrev pub with_inner : Inner → HostState → HostState
with_inner inner s = record s { shared = record s.shared { inner = inner } }
