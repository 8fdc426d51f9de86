use Rattle.awk_text.proofs.Octals.{between_is}
use Rattle.script_code.proofs.expressions.between.Goals as goal

pub returns-in-len2-up : goal.returns-in-len2-up
returns-in-len2-up c = between_is c.args.ere.now c.in-len2-up.len_at_least
