use Rattle.agreement.proofs.TwinsLemmas.Escapes.{letters, octals, others}
use Rattle.agreement.proofs.twins.escapes_agree.Goals as goal

pub returns-clause-octals : goal.returns-clause-octals
returns-clause-octals c = octals

pub returns-clause-letters : goal.returns-clause-letters
returns-clause-letters c = letters

pub returns-clause-others : goal.returns-clause-others
returns-clause-others c = others
