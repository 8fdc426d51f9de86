use Rattle.std.proofs.Common.{ℕ, ◌<◌}
use Rattle.std.specs.Prelude.{slice_get}
use Rattle.ere_match.specs.Leads.{IsLedNode}
use Rattle.ere_match.specs.Threads.{Holds}
use Rattle.ere_match.proofs.lead.lead_of.Given as goal

abbrev pub invariant-loop-id : goal.invariant-loop-id
invariant-loop-id l = (k s : ℕ) → k < l.id → Holds l.set k s → IsLedNode l.lead (slice_get l.nodes k)
