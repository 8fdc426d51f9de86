use Rattle.std.proofs.Common.{◌≡◌, true, rules, sym, subst, List, ℕ}
use Rattle.awk_text.specs.Escapes.{between}
use Rattle.awk_tokens.specs.Views.{spelled}
use Rattle.ere_syntax.specs.Answers.{IsRefused}
use Rattle.script_code.specs.Expressions.{IsBadAs, is_ere}
use Rattle.script_code.proofs.FirstBad.{bad_as}
use Rattle.script_code.proofs.expressions.check_expression.Goals as goal

pub returns-in-Err-clause-bad : goal.returns-in-Err-clause-bad
returns-in-Err-clause-bad c =
    let token = c.args.token.now in
    let kind : is_ere token.kind ≡ true = search rules in
    let cause : IsRefused (between token.text.now) c.in-Err.fault = subst (λ (text : List ℕ). IsRefused text c.in-Err.fault) c.between.ensures c.in-Err.ensures.refused in
    subst (IsBadAs (spelled token)) (sym c.expression_fault.ensures) (bad_as (spelled token) c.in-Err.fault kind cause)
