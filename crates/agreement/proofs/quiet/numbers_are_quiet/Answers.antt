use Rattle.lower_model.proofs.CodeFollows.{code_follows}
use Rattle.agreement.proofs.ModulesLemmas.Agreeing as Agreeing
use Rattle.agreement.proofs.ModulesLemmas.Modules.{agreement}
use Rattle.agreement.proofs.QuietLemmas.Whole.{quietly}
use Rattle.agreement.proofs.quiet.numbers_are_quiet.Goals as goal

pub returns : goal.returns
returns c = λ p sorted typed job input outside m d s reached a.
    let values = Agreeing.agreement p (code_follows p sorted) in
    quietly p (agreement p values) typed job input outside m reached.is_new sorted values d s reached a
