use Rattle.agreement.proofs.StoresLemmas.Elements.{deletes, stores}
use Rattle.agreement.proofs.stores.arrays_are_maps.Goals as goal

pub returns-clause-stored : goal.returns-clause-stored
returns-clause-stored c = stores

pub returns-clause-deleted : goal.returns-clause-deleted
returns-clause-deleted c = deletes
