use Rattle.awk_text.proofs.Octals.{between_is}
use Rattle.mid_code.proofs.peek.ere_text.Goals as goal

pub returns-in-len2-up : goal.returns-in-len2-up
returns-in-len2-up c = between_is c.args.token.now c.in-len2-up.len_at_least
