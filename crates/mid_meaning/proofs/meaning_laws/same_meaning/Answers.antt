use Rattle.mid_meaning.proofs.Scripts.{code_ends_as}
use Rattle.mid_meaning.proofs.meaning_laws.same_meaning.Goals as goal

pub returns : goal.returns
returns c = code_ends_as
