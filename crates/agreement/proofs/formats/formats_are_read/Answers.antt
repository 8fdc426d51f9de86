use Rattle.agreement.proofs.FormatsLemmas.Converse.{has_text}
use Rattle.agreement.proofs.FormatsLemmas.Reading.{all_read}
use Rattle.agreement.proofs.formats.formats_are_read.Goals as goal

pub returns : goal.returns
returns c = λ format values text. (all_read format values text, λ h. has_text format values text h.0 h.1)
