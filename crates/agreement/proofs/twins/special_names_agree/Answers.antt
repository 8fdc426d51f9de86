use Rattle.agreement.proofs.TwinsLemmas.Names.{arrays, assigned, each, named_is, scalars}
use Rattle.agreement.proofs.twins.special_names_agree.Goals as goal

pub returns-clause-each : goal.returns-clause-each
returns-clause-each c = each

pub returns-clause-scalars : goal.returns-clause-scalars
returns-clause-scalars c = scalars

pub returns-clause-named : goal.returns-clause-named
returns-clause-named c = named_is

pub returns-clause-arrays : goal.returns-clause-arrays
returns-clause-arrays c = arrays

pub returns-clause-assigned : goal.returns-clause-assigned
returns-clause-assigned c = assigned
