use Rattle.mid_meaning.proofs.Runs.{code_is_shallow, script_is_shallow}
use Rattle.mid_meaning.proofs.meaning_laws.never_too_deep.Goals as goal

pub returns-clause-scripts : goal.returns-clause-scripts
returns-clause-scripts c = script_is_shallow

pub returns-clause-code : goal.returns-clause-code
returns-clause-code c = code_is_shallow
