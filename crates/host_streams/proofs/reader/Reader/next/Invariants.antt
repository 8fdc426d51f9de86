use Rattle.std.proofs.Common.{◌≡◌, ◌≢◌}
use Rattle.host_streams.specs.declared.reader.Phase.TheVariants.{Broken}
use Rattle.host_streams.specs.Looks.{IsScanned}
use Rattle.host_streams.specs.Readers.{left, unread, EndStays, OnlyReads, work}
use Rattle.host_streams.specs.Given.{GivesNone}
use Rattle.host_streams.proofs.Turns.{SoFar}
use Rattle.host_streams.proofs.reader.Reader.next.Given as goal

abbrev pub invariant-turns : goal.invariant-turns
invariant-turns g l =
    let w = g.W.World in
    record {
      id : l.self.id ≡ l.fn.self.id;
      live : l.self.phase ≢ Broken;
      stays : EndStays l.fn.self.phase l.self.phase;
      handed : SoFar l.fn.self.phase (unread l.fn.self) l.self.phase (unread l.self);
      known : IsScanned l.rs (unread l.self) l.known;
      gives : GivesNone w.did l.fn.world l.world;
      kinds : w.kinds l.world ≡ w.kinds l.fn.world;
      count : w.count l.world ≡ w.count l.fn.world;
      started : l.fn.self.phase ≢ Broken;
      told : w.is_modelled → left l.self ((w.state l.world).readers l.fn.self.id) ≡ left l.fn.self ((w.state l.fn.world).readers l.fn.self.id);
      only : w.is_modelled → OnlyReads l.fn.self.id (w.state l.fn.world) (w.state l.world);
    }

abbrev pub decreases-turns : goal.decreases-turns
decreases-turns g l = work l.self
