use Rattle.std.proofs.Common.{◌∙◌, sym}
use Rattle.awk_text.proofs.Meaning.{one_numeral, one_number, one_truncated}
use Rattle.awk_text.proofs.number_laws.at_most_one_number.Goals as goal

pub returns-clause-numeral : goal.returns-clause-numeral
returns-clause-numeral c = one_numeral

pub returns-clause-number : goal.returns-clause-number
returns-clause-number c text v w p q = one_number text v p ∙ sym (one_number text w q)

pub returns-clause-truncated : goal.returns-clause-truncated
returns-clause-truncated c text v w p q = one_truncated text v p ∙ sym (one_truncated text w q)
