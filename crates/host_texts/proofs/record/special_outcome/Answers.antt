use Rattle.host_texts.proofs.Outcomes.{done_stop, refused_outcome}
use Rattle.host_texts.specs.Evaluations.{done_reply}
use Rattle.host_texts.specs.States.{with_texts}
use Rattle.host_texts.proofs.record.special_outcome.Goals as goal

pub returns-in-Err-Fault : goal.returns-in-Err-Fault
returns-in-Err-Fault c = λ s.
    refused_outcome c.args.texts.now c.put_special.new.texts s done_reply _ c.in-Err-Fault.field-0 c.in-Err-Fault.fault (done_stop _ c.in-Err-Fault.field-0 (c.in-Err-Fault.ensures.err (with_texts c.args.texts.now s.shared.inner))) c.in-Err-Fault.field-0-is c.in-Err-Fault.ensures.refused
