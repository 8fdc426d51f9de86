use Rattle.mid_program.proofs.Runs.{runs_same}
use Rattle.mid_program.proofs.rewriting_laws.rewritten_code_runs_as_before.Goals as goal

pub returns : goal.returns
returns c = runs_same
