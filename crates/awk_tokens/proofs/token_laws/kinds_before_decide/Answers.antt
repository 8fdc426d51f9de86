use Rattle.awk_tokens.proofs.Contexts.{divides_is, drops_is}
use Rattle.awk_tokens.proofs.token_laws.kinds_before_decide.Goals as goal

pub returns-clause-slash : goal.returns-clause-slash
returns-clause-slash c = divides_is

pub returns-clause-newline : goal.returns-clause-newline
returns-clause-newline c = drops_is
