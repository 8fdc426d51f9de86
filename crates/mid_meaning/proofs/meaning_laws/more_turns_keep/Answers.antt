use Rattle.mid_meaning.proofs.Runs.{code_keeps, script_keeps}
use Rattle.mid_meaning.proofs.meaning_laws.more_turns_keep.Goals as goal

pub returns-clause-scripts : goal.returns-clause-scripts
returns-clause-scripts c = script_keeps

pub returns-clause-code : goal.returns-clause-code
returns-clause-code c = code_keeps
