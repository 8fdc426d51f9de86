use Rattle.std.proofs.Common.{◌≡◌}
use Rattle.sem_primitives.specs.MainInput.{main_input}
use Rattle.sem_primitives.specs.SharedState.{Inner}
use Rattle.host_streams.specs.Given.{GivesNone}
use Rattle.host_streams.specs.OpenFiles.{WritersGo}
use Rattle.host_worlds.specs.Givens.{OffersTexts, left_to_open}
use Rattle.host_worlds.specs.Keeps.{IsMoved}
use Rattle.host_worlds.specs.States.{HoldsInput, Over, with_tables}
use Rattle.host_worlds.proofs.MainFound.{FoundSoFar}
use Rattle.host_worlds.proofs.main_record.given.Given as goal

abbrev pub invariant-turns : goal.invariant-turns
invariant-turns g l =
    let w = g.W.World in
    record {
      held : HoldsInput l.input (w.kinds l.world);
      goes : w.is_modelled → WritersGo l.input.files.writers.items (w.state l.world);
      outside : w.is_modelled → (w.state l.world).outside ≡ (w.state l.fn.world).outside;
      gives : GivesNone w.did l.fn.world l.world;
      rest : IsMoved l.fn.input l.input;
      finds : FoundSoFar (g.O.Operands.text l.operands) l.fn.texts l.fn.input l.texts l.input;
      told : w.is_modelled → (inner : Inner) → OffersTexts (g.O.Operands.text l.operands) inner →
          main_input (w.state l.fn.world).outside (with_tables l.fn.texts l.fn.input (Over (w.state l.fn.world)) inner) ≡ main_input (w.state l.fn.world).outside (with_tables l.texts l.input (Over (w.state l.world)) inner);
    }

abbrev pub decreases-turns : goal.decreases-turns
decreases-turns g l = left_to_open l.input.main
