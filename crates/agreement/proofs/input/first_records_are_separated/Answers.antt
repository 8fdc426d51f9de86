use Rattle.agreement.proofs.InputLemmas.Records.{first_records}
use Rattle.agreement.proofs.input.first_records_are_separated.Goals as goal

pub returns : goal.returns
returns c = first_records
