use Rattle.agreement.proofs.StoresLemmas.Fields.{count_assigned, field_assigned}
use Rattle.agreement.proofs.stores.fields_are_assigned.Goals as goal

pub returns-clause-field : goal.returns-clause-field
returns-clause-field c = field_assigned

pub returns-clause-count : goal.returns-clause-count
returns-clause-count c = count_assigned
