use Rattle.agreement.proofs.StoresLemmas.Walks.{deleted_distinct, stored_distinct, walked}
use Rattle.agreement.proofs.stores.walks_give_keys.Goals as goal

pub returns-clause-stored : goal.returns-clause-stored
returns-clause-stored c = stored_distinct

pub returns-clause-deleted : goal.returns-clause-deleted
returns-clause-deleted c = deleted_distinct

pub returns-clause-walked : goal.returns-clause-walked
returns-clause-walked c = walked
