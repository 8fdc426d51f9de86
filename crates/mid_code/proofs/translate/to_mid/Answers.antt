use Rattle.std.proofs.Common.{ℕ, List, ap, subst, sym, ◌∙◌}
use Rattle.std.proofs.lemmas.Result.{IfOk-weaker}
use Rattle.mid_program.specs.Mid.{Program}
use Rattle.mid_program.specs.MidMeaning.{EndsAs}
use Rattle.mid_program.specs.Translation.{program_with}
use Rattle.mid_code.specs.ViewNames.{script_of}
use Rattle.mid_meaning.proofs.Scripts.{code_ends_as}
use Rattle.mid_code.proofs.translate.to_mid.Goals as goal

pub returns-clause-code : goal.returns-clause-code
returns-clause-code c =
    let script = script_of c.args.resolved.now in
    let code = c.in_ok-code.ensures ∙ ap (λ (ts : List (List ℕ)). program_with ts script) c.in_ok-texts.ensures in
    IfOk-weaker c.with_texts.result _ _ (λ m is. is ∙ code) c.with_texts.ensures

pub returns-clause-same_meaning : goal.returns-clause-same_meaning
returns-clause-same_meaning c =
    let script = script_of c.args.resolved.now in
    IfOk-weaker c.with_texts.result _ _ (λ m is. subst (λ (p : Program). EndsAs p script) (sym is) (code_ends_as script)) (returns-clause-code c)
