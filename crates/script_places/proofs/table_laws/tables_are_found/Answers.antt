use Rattle.script_places.proofs.Found.{table_found}
use Rattle.script_places.proofs.table_laws.tables_are_found.Goals as goal

pub returns : goal.returns
returns c = table_found
