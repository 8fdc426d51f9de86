-- What is found at regular expressions, one token on.
use Rattle.std.proofs.Common.{◌≡◌, ◌+◌, ◌++◌, ℕ, List, Option, None, Some, Result, subst, sym}
use Rattle.std.specs.Prelude.{IfOk, option_to_list}
use Rattle.std.specs.declared.alloc.AllocError.{AllocError}
use Rattle.awk_tokens.specs.declared.token.TokenKind.{TokenKind}
use Rattle.awk_tokens.specs.declared.token.TokenKind.TheVariants.{Ere}
use Rattle.ere_syntax.specs.declared.fault.EreFault.{EreFault}
use Rattle.script_check.specs.Layout.{Layout, kind_at, text_at}
use Rattle.script_check.specs.Refused.{AreEres, IsEreFault, IsKindFault, IsTokenFault, ere_found, inner, token}
use Rattle.script_check.specs.Remarks.{Found}

pub of_kind : (kind : TokenKind) (text x : List ℕ) (r : Result (Option EreFault) AllocError) → kind ≡ Ere → x ≡ inner text → IfOk r (λ f. IsEreFault x f) → IfOk r (λ f. IsKindFault kind text f)
of_kind kind text x r is same said =
    subst (λ (k : TokenKind). IfOk r (λ f. IsKindFault k text f)) (sym is) (subst (λ (y : List ℕ). IfOk r (λ f. IsEreFault y f)) same said)

pub of_some : (o : Option TokenKind) (kind : TokenKind) (text : List ℕ) (r : Result (Option EreFault) AllocError) → o ≡ Some kind → IfOk r (λ f. IsKindFault kind text f) → IfOk r (λ f. IsTokenFault o text f)
of_some o kind text r is said = subst (λ (k : Option TokenKind). IfOk r (λ f. IsTokenFault k text f)) (sym is) said

pub one_on : (lay : Layout) (i : ℕ) (found out : List Found) (fault : Option EreFault) (kind : Option TokenKind) (text : List ℕ) → AreEres lay i found → kind ≡ kind_at lay.tokens i → text ≡ text_at lay.tokens i → IsTokenFault kind text fault → out ≡ found ++ option_to_list (ere_found lay i fault) → AreEres lay (i + 1) out
one_on lay i found out fault kind text so_far at_kind at_text said gains =
    let at_place : IsTokenFault (kind_at lay.tokens i) (text_at lay.tokens i) fault =
    subst (λ (x : List ℕ). IsTokenFault (kind_at lay.tokens i) x fault) at_text (subst (λ (k : Option TokenKind). IsTokenFault k text fault) at_kind said) in
    subst (AreEres lay (i + 1)) (sym gains) (token i found fault so_far at_place)
