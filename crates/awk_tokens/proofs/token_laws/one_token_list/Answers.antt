use Rattle.awk_tokens.proofs.Whole.{one_outcome}
use Rattle.awk_tokens.proofs.token_laws.one_token_list.Goals as goal

pub returns : goal.returns
returns c = one_outcome
