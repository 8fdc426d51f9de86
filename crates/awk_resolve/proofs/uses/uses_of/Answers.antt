use Rattle.std.proofs.Common.{List, [], take, sym, subst}
use Rattle.std.proofs.lemmas.List.{take_all}
use Rattle.awk_grammar.specs.Marks.{Mark as PlainMark}
use Rattle.awk_resolve.specs.View.{view_marks}
use Rattle.awk_resolve.specs.ViewNames.{view_heads}
use Rattle.awk_resolve.specs.ViewUses.{AreUses}
use Rattle.awk_resolve.specs.declared.mark.Mark.{Mark}
use Rattle.awk_resolve.specs.declared.mark.Mark.TheVariants.{Defined}
use Rattle.awk_resolve.proofs.Marks.{take_at}
use Rattle.awk_resolve.proofs.uses.uses_of.Goals as goal

pub loop-mark-init : goal.loop-mark-init
loop-mark-init c = c.first_uses-uses.ensures

pub loop-mark-preserved : goal.loop-mark-preserved
loop-mark-preserved c =
    let ms = c.args.marks.now in
    let i = c.loop-mark.mark-index in
    let d : Mark = Defined (record { ref_ptr = (0, 0); now = [] }) in
    subst (λ (us : List PlainMark). AreUses (view_heads c.args.scopes.now.heads.items) c.note.new.uses us) (sym (take_at ms i d c.loop-mark-test.true)) (c.note.ensures.next (view_marks (take i ms)) c.loop-mark.invariant)

pub returns-then-is_whole : goal.returns-then-is_whole
returns-then-is_whole c =
    let all = subst (λ (us : List Mark). AreUses (view_heads c.args.scopes.now.heads.items) c.loop-mark.uses (view_marks us)) (take_all c.loop-mark.mark-index c.args.marks.now c.loop-mark-test.false) c.loop-mark.invariant in
    all.all.notes (c.is_whole.ensures c.if-is_whole.true)
