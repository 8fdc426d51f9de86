use Rattle.agreement.proofs.TypedLemmas.Chosen.{import_stays, others_left_out, functions_behind}
use Rattle.agreement.proofs.typed.numbered.Goals as goal

pub returns-clause-called : goal.returns-clause-called
returns-clause-called c = import_stays

pub returns-clause-left_out : goal.returns-clause-left_out
returns-clause-left_out c = others_left_out

pub returns-clause-functions : goal.returns-clause-functions
returns-clause-functions c = functions_behind
