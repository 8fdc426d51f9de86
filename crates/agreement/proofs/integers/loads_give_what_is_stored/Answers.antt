use Rattle.agreement.proofs.IntegersLemmas.Remembered.{load_past, loads, store_past, stores}
use Rattle.agreement.proofs.integers.loads_give_what_is_stored.Goals as goal

pub returns-clause-stored : goal.returns-clause-stored
returns-clause-stored c = stores

pub returns-clause-loaded : goal.returns-clause-loaded
returns-clause-loaded c = loads

pub returns-clause-store_past : goal.returns-clause-store_past
returns-clause-store_past c = store_past

pub returns-clause-load_past : goal.returns-clause-load_past
returns-clause-load_past c = load_past
