use Rattle.std.proofs.Common.{◌≡◌, ◌≤◌, ◌-◌, length, take}
use Rattle.world_core.specs.WorldState.{puts}
use Rattle.world_core.specs.Calls.{Fits}
use Rattle.host_streams.specs.Given.{Makes}
use Rattle.host_streams.specs.Puts.{PutsPart}
use Rattle.host_streams.proofs.put.write_all.Given as goal

abbrev pub invariant-loop-at : goal.invariant-loop-at
invariant-loop-at g l =
    let w = g.W.World in
    record {
      within : l.at ≤ length l.text;
      kinds : w.kinds l.world ≡ w.kinds l.fn.world;
      count : w.count l.world ≡ w.count l.fn.world;
      made : Makes w.did l.fn.world l.world (λ targets. puts (targets l.id) (take l.at l.text));
      fits : w.is_modelled → Fits l.at ((w.state l.fn.world).outside ((w.state l.fn.world).writers l.id));
      does : w.is_modelled → PutsPart l.at l.id l.text (w.state l.fn.world) (w.state l.world);
    }

abbrev pub decreases-loop-at : goal.decreases-loop-at
decreases-loop-at g l = length l.text - l.at
