use Rattle.std.proofs.lemmas.Int.{of_z-to_z}
use Rattle.agreement.proofs.IntegersLemmas.Wrapped.{twos_complement}
use Rattle.agreement.proofs.integers.patterns_are_integers.Goals as goal

pub returns-clause-signed : goal.returns-clause-signed
returns-clause-signed c = twos_complement

pub returns-clause-pattern : goal.returns-clause-pattern
returns-clause-pattern c = of_z-to_z
