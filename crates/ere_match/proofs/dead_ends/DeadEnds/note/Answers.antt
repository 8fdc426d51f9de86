use Rattle.std.proofs.Common.{◌≡◌, ◌*◌, ◌/◌, ◌%◌, ℕ, List, subst, arith}
use Rattle.std.proofs.lemmas.Nat.{div-add-mod'}
use Rattle.std.proofs.lemmas.Result.{IfOk-weaker}
use Rattle.ere_match.specs.Ends.{AreAllMarked, MarksOnly, raised}
use Rattle.ere_match.proofs.Ends.{above_raised, marked_nowhere, marked_tails}
use Rattle.ere_match.proofs.Tables.{item_is}
use Rattle.ere_match.proofs.dead_ends.DeadEnds.note.Goals as goal

-- the number of a place
number : (at step : ℕ) → at % step ≡ 0 → at ≡ (at / step) * step
number at step e = (let x = div-add-mod' at step in omega (arith, x, e))

pub returns-clause-tails : goal.returns-clause-tails
returns-clause-tails c = λ all text end less t. IfOk-weaker c.mark_row.result _ _ (λ over only.
    marked_tails all text c.args.at (c.args.at / c.args.self.now.step) c.args.row.now (raised end c.args.self.now) c.index_mut.result.now c.mark_row.new.marks c.widen_places.new.marks.items
    (number c.args.at c.args.self.now.step c.if-at-self-ne0.false) (item_is c.widen_places.new.marks.items (c.args.at / c.args.self.now.step) c.index_mut.result.now c.in_ok-widen_places.ensures.ok c.index_mut.ensures.value)
    (c.widen_places.ensures.none c.args.self.now.step) (above_raised end c.args.at c.args.self.now c.requires less) t (subst (λ (xs : List ℕ). MarksOnly xs c.index_mut.result.now.items c.mark_row.new.marks.items) c.deref.ensures.value only)) c.mark_row.ensures.only

pub returns-clause-over : goal.returns-clause-over
returns-clause-over c = λ all text end less t. IfOk-weaker c.mark_row.result _ _ (λ over whole is.
    marked_nowhere all text c.args.at (c.args.at / c.args.self.now.step) c.args.row.now (raised end c.args.self.now) c.index_mut.result.now c.mark_row.new.marks c.widen_places.new.marks.items
    (number c.args.at c.args.self.now.step c.if-at-self-ne0.false) (item_is c.widen_places.new.marks.items (c.args.at / c.args.self.now.step) c.index_mut.result.now c.in_ok-widen_places.ensures.ok c.index_mut.ensures.value)
    (c.widen_places.ensures.none c.args.self.now.step) (above_raised end c.args.at c.args.self.now c.requires less) t (subst (λ (xs : List ℕ). AreAllMarked xs c.index_mut.result.now.items) c.deref.ensures.value (whole is))) c.mark_row.ensures.all
