use Rattle.agreement.specs.Places.Assigned.{IsAssigned}
use Rattle.agreement.specs.Spots.Places.{final_program}
use Rattle.agreement.proofs.QuietLemmas.Spots.{at_numeric, goes_on}
use Rattle.agreement.proofs.quiet.statements_of_scripts_are_quiet.Goals as goal

pub returns : goal.returns
returns c = λ script sorted typed job input outside m d s reached here a.
    goes_on script d s here (IsAssigned reached) m.program a
    (c.statements_are_quiet.ensures (final_program script) sorted typed job input outside m d s reached here (at_numeric script d s here (IsAssigned reached) a))
