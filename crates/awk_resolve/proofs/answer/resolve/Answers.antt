use Rattle.std.proofs.Common.{◌≡◌, List, None, ap, subst, ◌∙◌}
use Rattle.std.specs.Result.{IfErr, IfOk, OnOk}
use Rattle.awk_grammar.specs.Marks.{Mark}
use Rattle.awk_grammar.specs.Kinds.{Head, refusal_by, resolved_by}
use Rattle.awk_resolve.specs.View.{view_marks}
use Rattle.awk_resolve.specs.ViewResolved.{IsCause, view_resolved}
use Rattle.awk_resolve.proofs.answer.resolve.Goals as goal

-- what holds by what the code has holds of the script
both : {H M : Type 0} (P : H → M → Type 0) {a b : H} {c d : M} → a ≡ b → c ≡ d → P a c → P b d
both {H} {M} P {a} {b} {c} {d} e f h = subst (λ (m : M). P b m) f (subst (λ (u : H). P u c) e h)

pub returns-clause-fine : goal.returns-clause-fine
returns-clause-fine c =
    both (λ (hs : List Head) (ms : List Mark). OnOk c.resolve_in.result (refusal_by hs ms ≡ None)) c.in_ok-scopes.ensures (ap view_marks c.deref.ensures.value ∙ c.in_ok-marks.ensures) c.resolve_in.ensures.fine

pub returns-clause-kinds : goal.returns-clause-kinds
returns-clause-kinds c =
    both (λ (hs : List Head) (ms : List Mark). IfOk c.resolve_in.result (λ names. view_resolved names ≡ resolved_by hs ms)) c.in_ok-scopes.ensures (ap view_marks c.deref.ensures.value ∙ c.in_ok-marks.ensures) c.resolve_in.ensures.kinds

pub returns-clause-refused : goal.returns-clause-refused
returns-clause-refused c =
    both (λ (hs : List Head) (ms : List Mark). IfErr c.resolve_in.result (λ fault. IsCause fault (refusal_by hs ms))) c.in_ok-scopes.ensures (ap view_marks c.deref.ensures.value ∙ c.in_ok-marks.ensures) c.resolve_in.ensures.refused
