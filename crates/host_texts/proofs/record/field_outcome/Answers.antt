use Rattle.std.proofs.Common.{◌≡◌, Err, subst}
use Rattle.std.specs.Int.{w64}
use Rattle.std.proofs.lemmas.Int.{to_z-of_z}
use Rattle.sem_primitives.specs.FieldMeaning.{done}
use Rattle.host_fields.specs.Calls.{field_set}
use Rattle.host_texts.proofs.Outcomes.{done_stop, refused_outcome}
use Rattle.host_texts.specs.Evaluations.{done_reply, settled}
use Rattle.host_values.specs.Evaluations.{Outcome}
use Rattle.host_texts.specs.States.{holding, with_texts}
use Rattle.host_texts.proofs.record.field_outcome.Goals as goal

pub returns-in-Err-Fault : goal.returns-in-Err-Fault
returns-in-Err-Fault c = λ s.
    subst (λ n. ◌≡◌ {A = Outcome} (settled (holding c.args.texts.now s) done_reply (done (field_set n c.args.value.now (with_texts c.args.texts.now s.shared.inner)))) (holding c.store_field.new.texts s, Err c.in-Err-Fault.fault)) (to_z-of_z w64 c.args.number c.ranges.number)
    (refused_outcome c.args.texts.now c.store_field.new.texts s done_reply _ c.in-Err-Fault.field-0 c.in-Err-Fault.fault (done_stop _ c.in-Err-Fault.field-0 (c.in-Err-Fault.ensures.err (with_texts c.args.texts.now s.shared.inner))) c.in-Err-Fault.field-0-is c.in-Err-Fault.ensures.refused)
