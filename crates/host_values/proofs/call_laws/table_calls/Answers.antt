use Rattle.host_values.proofs.Means.{plain_calls, refused_called, table_means, unfit_means, unknown_called}
use Rattle.host_values.proofs.call_laws.table_calls.Goals as goal

pub returns-clause-called : goal.returns-clause-called
returns-clause-called g c = λ i words memory before after r. table_means g.W.World.is_modelled i words memory before after r

pub returns-clause-refused : goal.returns-clause-refused
returns-clause-refused g c = refused_called g.W.World.is_modelled

pub returns-clause-unknown : goal.returns-clause-unknown
returns-clause-unknown g c = unknown_called g.W.World.is_modelled

pub returns-clause-unfit : goal.returns-clause-unfit
returns-clause-unfit g c = λ i words memory before after w. unfit_means g.W.World.is_modelled i words memory before after w

pub returns-clause-plain : goal.returns-clause-plain
returns-clause-plain g c = plain_calls
