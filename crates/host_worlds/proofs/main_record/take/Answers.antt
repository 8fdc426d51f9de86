use Rattle.std.proofs.lemmas.Result.{IfErr-weaker, on_ok_weaker}
use Rattle.host_worlds.specs.States.{with_input, with_tables}
use Rattle.host_worlds.proofs.Kept.{taken_fault, taken_ok, taken_stops}
use Rattle.host_worlds.proofs.main_record.take.Goals as goal

pub returns-in-Ok-clause-ok : goal.returns-in-Ok-clause-ok
returns-in-Ok-clause-ok c =
    on_ok_weaker c.keep.result (λ h around inner. taken_ok c.args.how c.args.text (with_tables c.args.texts.now c.args.input.now around inner) c.keep_of.result (with_tables c.count_record.new.texts c.args.input.now around inner) (with_tables c.keep.new.texts c.keep.new.input around inner) c.keep_of.ensures (c.in-Ok.ensures.ok (with_input c.args.input.now around inner)) (h around inner)) c.keep.ensures.ok

pub returns-in-Ok-clause-err : goal.returns-in-Ok-clause-err
returns-in-Ok-clause-err c =
    IfErr-weaker c.keep.result _ _ (λ stop h around inner. taken_stops c.args.how c.args.text (with_tables c.args.texts.now c.args.input.now around inner) c.keep_of.result (with_tables c.count_record.new.texts c.args.input.now around inner) stop c.keep_of.ensures (c.in-Ok.ensures.ok (with_input c.args.input.now around inner)) (h around inner)) c.keep.ensures.err

pub returns-in-Err-clause-err : goal.returns-in-Err-clause-err
returns-in-Err-clause-err c = λ around inner. taken_fault c.args.how c.args.text (with_tables c.args.texts.now c.args.input.now around inner) c.in-Err.fault (c.in-Err.ensures.err (with_input c.args.input.now around inner))
