use Rattle.std.proofs.Common.{sym, ◌∙◌}
use Rattle.awk_text.proofs.Octals.{front, none_left, none_taken}
use Rattle.awk_text.proofs.escapes.digit_at.Goals as goal

pub returns-in-empty : goal.returns-in-empty
returns-in-empty c = none_left c.args.text.now c.in-empty.len_below

pub returns-then-is_octal : goal.returns-then-is_octal
returns-then-is_octal c = (sym (front c.args.text.now c.in-len1-up.len_at_least), sym c.is_octal.ensures ∙ c.if-is_octal.true)

pub returns-else-is_octal : goal.returns-else-is_octal
returns-else-is_octal c = none_taken c.args.text.now c.in-len1-up.len_at_least (sym c.is_octal.ensures ∙ c.if-is_octal.false)
