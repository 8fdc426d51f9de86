use Rattle.awk_resolve.proofs.SetsLemmas.{is_set, set_is}
use Rattle.awk_resolve.proofs.kind_laws.one_set.Goals as goal

pub returns : goal.returns
returns c = λ kind script set. (set_is kind script set, is_set kind script set)
