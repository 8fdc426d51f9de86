use Rattle.awk_tokens.specs.Cutting.{finished}
use Rattle.awk_tokens.specs.Reading.{raw_of}
use Rattle.awk_tokens.proofs.Whole.{read_is_tokens}
use Rattle.awk_tokens.proofs.token_laws.some_token_list.Goals as goal

pub returns : goal.returns
returns c = λ script. (finished (raw_of script), read_is_tokens script)
