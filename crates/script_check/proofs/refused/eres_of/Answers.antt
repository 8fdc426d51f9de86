use Rattle.std.proofs.Common.{◌∙◌, ◌++◌, List, Option, ap, subst, sym}
use Rattle.std.specs.Prelude.{option_to_list}
use Rattle.script_check.specs.declared.finding.Finding.{Finding}
use Rattle.script_check.specs.Layout.{view_text}
use Rattle.script_check.specs.Refused.{AreEres, no_token}
use Rattle.script_check.specs.Remarks.{Found, view_findings}
use Rattle.script_check.proofs.Eres.{one_on}
use Rattle.script_check.proofs.refused.eres_of.Goals as goal

pub loop-number-init : goal.loop-number-init
loop-number-init c = subst (λ (fs : List Finding). AreEres (view_text c.args.text.now) 0 (view_findings fs)) (sym c.new-out.ensures.items) no_token

pub loop-number-preserved : goal.loop-number-preserved
loop-number-preserved c =
    let lay = view_text c.args.text.now in
    let before = view_findings c.loop-number.out.items in
    one_on lay c.loop-number.number before (view_findings c.push_found.new.out.items) c.in_ok-fault.fault c.kind_at-kind.result c.text_at.result.now c.loop-number.invariant c.kind_at-kind.ensures c.text_at.ensures c.in_ok-fault.ensures
    (c.in_ok-push_found.ensures ∙ ap (λ (o : Option Found). before ++ option_to_list o) c.ere_found.ensures)
