use Rattle.std.proofs.Common.{ap, refl}
use Rattle.std.proofs.lemmas.Result.{IfErr-weaker, on_ok_weaker}
use Rattle.host_texts.specs.States.{specials_of, with_texts}
use Rattle.host_worlds.proofs.SpecialNumbers.{counts, miscounts}
use Rattle.host_worlds.proofs.record.count_by.Goals as goal

pub returns-clause-ok : goal.returns-clause-ok
returns-clause-ok c =
    on_ok_weaker c.count_in.result (λ counted inner. counts c.args.special (with_texts c.args.texts.now inner) _ (specials_of c.args.texts.now.specials.values c.args.special) counted.0 c.requires refl counted.1
    (ap (λ s. record (with_texts c.args.texts.now inner) { specials = s }) counted.2)) c.count_in.ensures.ok

pub returns-clause-err : goal.returns-clause-err
returns-clause-err c =
    IfErr-weaker c.count_in.result _ _ (λ fault is inner. miscounts c.args.special (with_texts c.args.texts.now inner) fault c.requires is) c.count_in.ensures.err
