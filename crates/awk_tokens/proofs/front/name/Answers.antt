use Rattle.awk_tokens.proofs.Fronts.{name_done}
use Rattle.awk_tokens.proofs.front.name.Goals as goal

pub returns-in-len1-up : goal.returns-in-len1-up
returns-in-len1-up c = name_done c.args.bytes.now _ _ c.in-len1-up.len_at_least c.name_bytes-more.ensures c.word-kind.ensures
