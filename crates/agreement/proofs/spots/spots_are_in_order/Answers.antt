use Rattle.agreement.proofs.SpotsLemmas.InOrder.{module_so}
use Rattle.agreement.proofs.spots.spots_are_in_order.Goals as goal

pub returns : goal.returns
returns c = module_so
