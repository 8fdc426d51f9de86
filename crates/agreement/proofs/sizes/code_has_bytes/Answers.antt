use Rattle.agreement.proofs.SizesLemmas.Whole.{code_has_bytes}
use Rattle.agreement.proofs.sizes.code_has_bytes.Goals as goal

pub returns : goal.returns
returns c = code_has_bytes c.typed.ensures
