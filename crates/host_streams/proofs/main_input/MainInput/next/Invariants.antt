use Rattle.std.proofs.Common.{◌≡◌}
use Rattle.sem_primitives.specs.MainInput.{main_input}
use Rattle.sem_primitives.specs.SharedState.{Inner}
use Rattle.host_streams.specs.Mains.{IsAsked, IsOffered, main_in, main_phase, work}
use Rattle.host_streams.specs.MainMoves.{MovesMain}
use Rattle.awk_values.specs.Values.{number_of_value}
use Rattle.host_streams.specs.Passing.{AreThere, Skips, StandardStays}
use Rattle.host_streams.specs.Given.{GivesNone}
use Rattle.host_streams.proofs.Held.{is_broken}
use Rattle.host_streams.proofs.MainFound.{FoundSoFar}
use Rattle.host_streams.proofs.Passed.{SoFarMain}
use Rattle.host_streams.proofs.main_input.MainInput.next.Given as goal

abbrev pub invariant-steps : goal.invariant-steps
invariant-steps g l =
    let w = g.W.World in
    record {
      moves : MovesMain w.is_modelled l.fn.self l.self (w.kinds l.fn.world) (w.kinds l.world) (w.state l.fn.world) (w.state l.world);
      gives : GivesNone w.did l.fn.world l.world;
      count : w.count l.world ≡ w.count l.fn.world;
      phase : is_broken (main_phase l.self) ≡ is_broken (main_phase l.fn.self);
      ended : l.self.ended ≡ l.fn.self.ended;
      so : SoFarMain l.separator l.fn.self l.self;
      standard : StandardStays l.fn.self.reading l.fn.self.standard l.self.standard;
      skips : Skips (g.O.Operands.text l.operands) l.fn.self.next l.self.next;
      found : l.self.found ≡ l.fn.self.found;
      there : AreThere (number_of_value l.argc) l.fn.self.next l.self.next;
      finds : FoundSoFar l.separator l.argc (g.O.Operands.text l.operands) l.fn.self l.self;
      told : w.is_modelled → (inner : Inner) → IsAsked l.separator inner → IsOffered l.argc (g.O.Operands.text l.operands) inner →
          main_input (w.state l.fn.world).outside (main_in l.fn.self (w.state l.fn.world) inner) ≡ main_input (w.state l.fn.world).outside (main_in l.self (w.state l.world) inner);
    }

abbrev pub decreases-steps : goal.decreases-steps
decreases-steps g l = work l.self
