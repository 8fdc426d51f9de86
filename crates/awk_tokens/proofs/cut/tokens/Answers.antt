use Rattle.std.proofs.Common.{List, map, false, None, ap, ◌∙◌}
use Rattle.std.proofs.lemmas.Result.{err_from_is_err_and}
use Rattle.awk_tokens.specs.declared.token.Token.{Token}
use Rattle.awk_tokens.specs.Rules.{rule_two, rule_three}
use Rattle.awk_tokens.specs.Views.{spelled}
use Rattle.awk_tokens.proofs.Whole.{found_tokens, refused_or}
use Rattle.awk_tokens.proofs.cut.tokens.Goals as goal

pub returns-in_err-pieces-clause-refused : goal.returns-in_err-pieces-clause-refused
returns-in_err-pieces-clause-refused c =
    let p = err_from_is_err_and c.from_residual.result c.from_residual.ensures.1 in
    rw (p.1, p.2) (refused_or c.args.script.now _ c.in_err-pieces.ensures.refused)

pub returns-clause-found : goal.returns-clause-found
returns-clause-found c = found_tokens c.args.script.now _ _ _ c.in_ok-pieces.ensures.found
    (c.in_ok-kept.ensures ∙ ap (λ (ts : List Token). rule_two false (map spelled ts)) c.deref.ensures.value)
    (c.in_ok-ended.ensures ∙ ap (λ (ts : List Token). rule_three None (map spelled ts)) c.deref-2.ensures.value)
