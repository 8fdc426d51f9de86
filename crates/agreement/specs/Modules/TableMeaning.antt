-- The host of the table of imports, as a machine sees it.
use Rattle.std.specs.Prelude.{◌≡◌}
use Rattle.world_core.specs.WorldState.{Action}
use Rattle.wasm_model.specs.Hosts.{Meaning}
use Rattle.host_step.specs.HostState.{HostState}
use Rattle.host_step.specs.HostStep.{HostStep}

-- each call is a step of the table, and changes no memory
abbrev pub table_meaning : Meaning HostState Action
table_meaning before n words mem answer after mem' output = (mem' ≡ mem) × HostStep n before words mem.bytes answer after output
