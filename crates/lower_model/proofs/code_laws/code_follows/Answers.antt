use Rattle.lower_model.proofs.CodeFollows.{code_follows}
use Rattle.lower_model.proofs.code_laws.code_follows.Goals as goal

pub returns : goal.returns
returns c = code_follows
