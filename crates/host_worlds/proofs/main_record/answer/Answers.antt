use Rattle.std.proofs.Common.{Err, subst, sym}
use Rattle.host_worlds.specs.Givens.{RowGives, answer_of, main_of_given}
use Rattle.host_worlds.specs.States.{with_tables}
use Rattle.host_worlds.proofs.Kept.{stop_gives}
use Rattle.host_worlds.proofs.main_record.answer.Goals as goal

pub returns-in-Err-clause-told : goal.returns-in-Err-clause-told
returns-in-Err-clause-told c = λ around inner.
    subst (λ x. RowGives (answer_of c.args.how (with_tables c.args.texts.now c.args.input.now around inner, main_of_given x)) (Err c.in-Err.stop) (with_tables c.take.new.texts c.take.new.input around inner)) (sym c.in-Taken.is)
    (stop_gives _ c.in-Err.stop (with_tables c.take.new.texts c.take.new.input around inner) (c.in-Err.ensures.err around inner))
