use Rattle.std.proofs.Common.{Option, append-nil, subst, sym}
use Rattle.std.specs.Prelude.{OnOk}
use Rattle.awk_grammar.specs.ViewStmt.{view_script}
use Rattle.script_check.specs.Layout.{view_text}
use Rattle.script_check.specs.Remarks.{Gains, view_findings}
use Rattle.script_check.specs.Troubles.{kinds_found}
use Rattle.script_check.specs.Uses.{Told}
use Rattle.script_check.specs.View.{view_uses}
use Rattle.script_check.proofs.AtUses.{at_none, at_some}
use Rattle.script_check.proofs.troubles.push_kinds.Goals as goal

pub returns-in-None : goal.returns-in-None
returns-in-None c =
    let a = c.args.out.now.items in
    subst (λ (o : Option Told). Gains a a (kinds_found (view_text c.args.text.now) (view_script c.args.script.now) (view_uses c.args.uses.now) c.args.at o))
    (sym (at_none c.args.uses.now c.args.at c.use_at.result c.use_at.ensures c.in-None.is)) (sym (append-nil (view_findings a)))

pub returns-in-Some : goal.returns-in-Some
returns-in-Some c =
    subst (λ (o : Option Told). OnOk c.push_kinds_of.result (Gains c.args.out.now.items c.push_kinds_of.new.out.items (kinds_found (view_text c.args.text.now) (view_script c.args.script.now) (view_uses c.args.uses.now) c.args.at o)))
    (sym (at_some c.args.uses.now c.args.at c.use_at.result c.in-Some.used c.use_at.ensures c.in-Some.is)) c.push_kinds_of.ensures
