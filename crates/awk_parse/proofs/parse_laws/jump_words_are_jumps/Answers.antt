use Rattle.awk_parse.proofs.JumpWords.{as_many}
use Rattle.awk_parse.proofs.parse_laws.jump_words_are_jumps.Goals as goal

pub returns : goal.returns
returns c = as_many
