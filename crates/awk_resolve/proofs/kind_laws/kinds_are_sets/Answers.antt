use Rattle.awk_resolve.proofs.SetsLemmas.{names_are, refusal_is}
use Rattle.awk_resolve.proofs.kind_laws.kinds_are_sets.Goals as goal

pub returns-clause-refusal : goal.returns-clause-refusal
returns-clause-refusal c = refusal_is

pub returns-clause-names : goal.returns-clause-names
returns-clause-names c = names_are
