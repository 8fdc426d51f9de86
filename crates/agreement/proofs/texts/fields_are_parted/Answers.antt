use Rattle.agreement.proofs.TextsLemmas.Fields.{fields, record_fields}
use Rattle.agreement.proofs.texts.fields_are_parted.Goals as goal

pub returns-clause-pieces : goal.returns-clause-pieces
returns-clause-pieces c = fields

pub returns-clause-of_record : goal.returns-clause-of_record
returns-clause-of_record c = record_fields
