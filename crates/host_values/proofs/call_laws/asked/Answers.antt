use Rattle.host_values.specs.FormLaws.{form_refused, form_typed}
use Rattle.host_values.proofs.call_laws.asked.Goals as goal

pub returns-clause-typed : goal.returns-clause-typed
returns-clause-typed g c = form_typed g.W.World.is_modelled

pub returns-clause-refused : goal.returns-clause-refused
returns-clause-refused g c = form_refused g.W.World.is_modelled
