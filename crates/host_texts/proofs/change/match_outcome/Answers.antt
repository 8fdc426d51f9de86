use Rattle.host_texts.proofs.Outcomes.{refused_outcome}
use Rattle.host_texts.specs.Evaluations.{number_reply}
use Rattle.host_texts.specs.States.{with_texts}
use Rattle.host_texts.proofs.change.match_outcome.Goals as goal

pub returns-in-Err-Fault : goal.returns-in-Err-Fault
returns-in-Err-Fault c = λ s.
    refused_outcome c.args.texts.now c.matched.new.texts s number_reply _ c.in-Err-Fault.field-0 c.in-Err-Fault.fault (c.in-Err-Fault.ensures.err (with_texts c.args.texts.now s.shared.inner)) c.in-Err-Fault.field-0-is c.in-Err-Fault.ensures.refused
