use Rattle.agreement.proofs.FormatsLemmas.Conversions.{writes}
use Rattle.agreement.proofs.formats.conversions_are_written.Goals as goal

pub returns : goal.returns
returns c = writes
