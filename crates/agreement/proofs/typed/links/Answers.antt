use Rattle.agreement.proofs.TypedLemmas.Links.{imports_there, main_exported, segments_fit}
use Rattle.agreement.proofs.typed.links.Goals as goal

pub returns-clause-imports : goal.returns-clause-imports
returns-clause-imports c = imports_there

pub returns-clause-main : goal.returns-clause-main
returns-clause-main c = main_exported

pub returns-clause-segments : goal.returns-clause-segments
returns-clause-segments c = segments_fit
