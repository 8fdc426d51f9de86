use Rattle.std.proofs.Common.{◌≡◌, ◌∷◌, length, drop, map, refl, ap, sym, ◌∙◌, arith}
use Rattle.std.specs.declared.boxed.Box.{Box}
use Rattle.std.specs.declared.alloc.Global.{Global}
use Rattle.std.specs.declared.vec.Vec.{Vec}
use Rattle.mid_program.specs.Mid as plain
use Rattle.mid_program.specs.ViewCode.{before, joined, view, view_row, view_slot, views}
use Rattle.mid_program.specs.declared.code.Code.{Code, out-Code}
use Rattle.mid_program.specs.declared.code.Code.TheBlock.{hidden-the_row-Operand-0, seen-the_row-Operand-0, shape-the_row-Operand-0, shown-the_row-Operand-0}
use denote.Hole.Carrier.{out}
use Rattle.mid_program.specs.declared.code.Operand.{Operand}
use Rattle.mid_program.specs.declared.code.Slot.{Slot}
use Rattle.mid_program.proofs.Views.{view_codes, view_joined}
use Rattle.mid_program.specs.Rewriting.{code_in, codes_in}
use Rattle.mid_program.proofs.Joining.{joined_in}
use Rattle.value_kinds.specs.View.{slots}
use Rattle.value_kinds.proofs.Views.{CodeDone, OperandDone, codes_done, done_next, operands_done, operands_of, rest_next, written_back}
use Rattle.value_kinds.proofs.code.+lanes.Goals as goal

pub lane_operands-loop-operand-preserved : goal.lane_operands-loop-operand-preserved
lane_operands-loop-operand-preserved t c = record {
  rest = rest_next c.loop-operand.operand-items c.deref_mut-operand-items.result.now c.loop-operand.operand-index c.lane_operand.new.operand c.loop-operand.invariant.rest;
  done = done_next (OperandDone (slots c.args.names)) c.loop-operand.operand-index c.loop-operand.operand-items c.args.operands.now.items c.operand-item.result c.lane_operand.new.operand (omega arith) c.loop-operand.invariant.done c.lane_operand.ensures;
}

pub lane_operands-returns : goal.lane_operands-returns
lane_operands-returns t c =
    ap views (written_back c.args.operands.now.len c.loop-operand.operand-items (drop (length c.loop-operand.operand-items) c.args.operands.now.items) (omega arith))
    ∙ operands_done (slots c.args.names) c.loop-operand.operand-index c.loop-operand.operand-items c.args.operands.now.items (omega arith) c.loop-operand.invariant.done

pub lane_codes-loop-code-preserved : goal.lane_codes-loop-code-preserved
lane_codes-loop-code-preserved t c = record {
  rest = rest_next c.loop-code.code-items c.deref_mut-code-items.result.now c.loop-code.code-index c.lane_code.new.code c.loop-code.invariant.rest;
  done = done_next (CodeDone (slots c.args.names)) c.loop-code.code-index c.loop-code.code-items c.args.codes.now.items c.code-item.result c.lane_code.new.code (omega arith) c.loop-code.invariant.done c.lane_code.ensures;
}

pub lane_codes-returns : goal.lane_codes-returns
lane_codes-returns t c =
    ap (map view) (written_back c.args.codes.now.len c.loop-code.code-items (drop (length c.loop-code.code-items) c.args.codes.now.items) (omega arith))
    ∙ codes_done (slots c.args.names) c.loop-code.code-index c.loop-code.code-items c.args.codes.now.items (omega arith) c.loop-code.invariant.done

abbrev boxed : Box Code Global → Code
boxed b = b.value

pub lane_code-returns-in-Joined : goal.lane_code-returns-in-Joined
lane_code-returns-in-Joined t c =
    let laned : plain.Code → plain.Code = code_in (slots c.args.names) plain.Do in
    let start = c.deref_mut.ensures.value ∙ ap boxed c.in-Joined.first-is in
    let end = c.deref_mut-in-Joined.ensures.value ∙ ap boxed c.in-Joined.last-is in
    let first = c.lane_code.ensures ∙ ap (λ (e : Code). laned (view e)) start in
    let last = c.lane_code-in-Joined.ensures ∙ ap (λ (e : Code). laned (view e)) end in
    let others = view_codes c.lane_codes.new.codes ∙ c.lane_codes.ensures ∙ ap (λ (v : Vec Code Global). map laned (map view v.items)) c.in-Joined.others-is in
    (λ i. joined (first i ∷ others i) (last i))
    ∙ joined_in (slots c.args.names) plain.Do (λ a b. refl) (view c.in-Joined.first.value ∷ map view c.in-Joined.others.items) (view c.in-Joined.last.value)
    ∙ ap laned (sym (ap view c.in-Joined.is ∙ view_joined c.in-Joined.first c.in-Joined.others c.in-Joined.last))

-- operands that were hidden in code, and shown again
abbrev again : Vec Operand Global → Vec Operand Global
again v = shown-the_row-Operand-0 (shape-the_row-Operand-0 v) (hidden-the_row-Operand-0 v)

done_again : (names : plain.Slot → plain.Slot) (new old : Vec Operand Global) → views new.items ≡ codes_in names plain.Do (views (again old).items) →
    view_row (hidden-the_row-Operand-0 new) ≡ codes_in names plain.Do (view_row (hidden-the_row-Operand-0 old))
done_again names new old e = operands_of new ∙ e ∙ ap (λ (v : Vec Operand Global). codes_in names plain.Do (views v.items)) (seen-the_row-Operand-0 old) ∙ ap (codes_in names plain.Do) (sym (operands_of old))

pub lane_code-returns-in-Do : goal.lane_code-returns-in-Do
unfolding out-Code out
lane_code-returns-in-Do t c =
    let laned_all : plain.Codes → plain.Codes = codes_in (slots c.args.names) plain.Do in
    let done : views c.lane_operands.new.operands.items ≡ laned_all (views (again c.in-Do.operands).items) = rw c.in-Do.is at c.lane_operands.ensures in
    let operands = done_again (slots c.args.names) c.lane_operands.new.operands c.in-Do.operands done in
    rw c.in-Do.is (λ i. plain.Do c.in-Do.field-0 (operands i))

pub lane_code-returns-in-Over : goal.lane_code-returns-in-Over
unfolding out-Code out
lane_code-returns-in-Over t c =
    let laned_all : plain.Codes → plain.Codes = codes_in (slots c.args.names) plain.Do in
    let done : views c.lane_operands-in-Over.new.operands.items ≡ laned_all (views (again c.in-Over.operands).items) = rw c.in-Over.is at c.lane_operands-in-Over.ensures in
    let operands = done_again (slots c.args.names) c.lane_operands-in-Over.new.operands c.in-Over.operands done in
    rw c.in-Over.is (λ i. plain.Over c.in-Over.field-0 (operands i))

pub lane_code-returns-in-Call : goal.lane_code-returns-in-Call
unfolding out-Code out
lane_code-returns-in-Call t c =
    let laned_all : plain.Codes → plain.Codes = codes_in (slots c.args.names) plain.Do in
    let done : views c.lane_operands-in-Call.new.operands.items ≡ laned_all (views (again c.in-Call.operands).items) = rw c.in-Call.is at c.lane_operands-in-Call.ensures in
    let operands = done_again (slots c.args.names) c.lane_operands-in-Call.new.operands c.in-Call.operands done in
    rw c.in-Call.is (λ i. plain.Call c.in-Call.field-0 (operands i))

pub lane_code-returns-in-Replace : goal.lane_code-returns-in-Replace
unfolding out-Code out
lane_code-returns-in-Replace t c =
    let laned : plain.Code → plain.Code = code_in (slots c.args.names) plain.Do in
    let laned_all : plain.Codes → plain.Codes = codes_in (slots c.args.names) plain.Do in
    let done : views c.lane_operands-in-Replace.new.operands.items ≡ laned_all (views (again c.in-Replace.operands).items) = rw c.in-Replace.is at c.lane_operands-in-Replace.ensures in
    let operands = done_again (slots c.args.names) c.lane_operands-in-Replace.new.operands c.in-Replace.operands done in
    let store : view c.lane_code-in-Replace.new.code ≡ laned (view c.in-Replace.store.value) = rw c.in-Replace.is at (c.lane_code-in-Replace.ensures ∙ ap (λ (e : Code). laned (view e)) c.deref_mut-in-Replace.ensures.value) in
    rw c.in-Replace.is (λ i. plain.Replace c.in-Replace.field-0 (operands i) (store i))

pub lane_code-returns-in-Compare : goal.lane_code-returns-in-Compare
unfolding out-Code out
lane_code-returns-in-Compare t c =
    let laned : plain.Code → plain.Code = code_in (slots c.args.names) plain.Do in
    let left : view c.lane_code-in-Compare.new.code ≡ laned (view c.in-Compare.left.value) = rw c.in-Compare.is at (c.lane_code-in-Compare.ensures ∙ ap (λ (e : Code). laned (view e)) c.deref_mut-in-Compare.ensures.value) in
    let right : view c.lane_code-in-Compare-2.new.code ≡ laned (view c.in-Compare.right.value) = rw c.in-Compare.is at (c.lane_code-in-Compare-2.ensures ∙ ap (λ (e : Code). laned (view e)) c.deref_mut-in-Compare-2.ensures.value) in
    rw c.in-Compare.is (λ i. plain.Compare c.in-Compare.field-0 (left i) (right i))

pub lane_code-returns-in-AskLine : goal.lane_code-returns-in-AskLine
unfolding out-Code out
lane_code-returns-in-AskLine t c =
    let laned : plain.Code → plain.Code = code_in (slots c.args.names) plain.Do in
    let store = c.lane_code-in-AskLine.ensures ∙ ap (λ (e : Code). laned (view e)) (c.deref_mut-in-AskLine.ensures.value ∙ ap boxed c.in-AskLine.store-is) in
    rw c.in-AskLine.is (ap plain.AskLine store)

pub lane_code-returns-in-FileLine : goal.lane_code-returns-in-FileLine
lane_code-returns-in-FileLine t c =
    let laned : plain.Code → plain.Code = code_in (slots c.args.names) plain.Do in
    let file = c.lane_code-in-FileLine.ensures ∙ ap (λ (e : Code). laned (view e)) (c.deref_mut-in-FileLine.ensures.value ∙ ap boxed c.in-FileLine.file-is) in
    let store = c.lane_code-in-FileLine-2.ensures ∙ ap (λ (e : Code). laned (view e)) (c.deref_mut-in-FileLine-2.ensures.value ∙ ap boxed c.in-FileLine.store-is) in
    (λ i. plain.FileLine (file i) (store i)) ∙ ap (λ (e : Code). laned (view e)) (sym c.in-FileLine.is)

pub lane_code-returns-in-Set : goal.lane_code-returns-in-Set
lane_code-returns-in-Set t c =
    let laned : plain.Code → plain.Code = code_in (slots c.args.names) plain.Do in
    let value = c.lane_code-in-Set.ensures ∙ ap (λ (e : Code). laned (view e)) (c.deref_mut-in-Set.ensures.value ∙ ap boxed c.in-Set.value-is) in
    let name = c.slot.ensures ∙ ap (λ (x : Slot). slots c.args.names (view_slot x)) c.in-Set.slot-is in
    (λ i. plain.Set (name i) (value i)) ∙ ap (λ (e : Code). laned (view e)) (sym c.in-Set.is)

pub lane_code-returns-in-Choose : goal.lane_code-returns-in-Choose
unfolding out-Code out
lane_code-returns-in-Choose t c =
    let laned : plain.Code → plain.Code = code_in (slots c.args.names) plain.Do in
    let test : view c.lane_code-in-Choose.new.code ≡ laned (view c.in-Choose.test.value) = rw c.in-Choose.is at (c.lane_code-in-Choose.ensures ∙ ap (λ (e : Code). laned (view e)) c.deref_mut-in-Choose.ensures.value) in
    let yes : view c.lane_code-in-Choose-2.new.code ≡ laned (view c.in-Choose.yes.value) = rw c.in-Choose.is at (c.lane_code-in-Choose-2.ensures ∙ ap (λ (e : Code). laned (view e)) c.deref_mut-in-Choose-2.ensures.value) in
    let no : view c.lane_code-in-Choose-3.new.code ≡ laned (view c.in-Choose.no.value) = rw c.in-Choose.is at (c.lane_code-in-Choose-3.ensures ∙ ap (λ (e : Code). laned (view e)) c.deref_mut-in-Choose-3.ensures.value) in
    rw c.in-Choose.is (λ i. plain.Choose c.in-Choose.field-0 (test i) (yes i) (no i))

pub lane_code-returns-in-Seq : goal.lane_code-returns-in-Seq
lane_code-returns-in-Seq t c =
    let laned : plain.Code → plain.Code = code_in (slots c.args.names) plain.Do in
    let first = c.lane_code-in-Seq.ensures ∙ ap (λ (e : Code). laned (view e)) (c.deref_mut-in-Seq.ensures.value ∙ ap boxed c.in-Seq.first-is) in
    let second = c.lane_code-in-Seq-2.ensures ∙ ap (λ (e : Code). laned (view e)) (c.deref_mut-in-Seq-2.ensures.value ∙ ap boxed c.in-Seq.second-is) in
    (λ i. plain.Seq (first i) (second i)) ∙ ap (λ (e : Code). laned (view e)) (sym c.in-Seq.is)

pub lane_code-returns-in-Let : goal.lane_code-returns-in-Let
lane_code-returns-in-Let t c =
    let laned : plain.Code → plain.Code = code_in (slots c.args.names) plain.Do in
    let kept = c.lane_code-in-Let.ensures ∙ ap (λ (e : Code). laned (view e)) (c.deref_mut-in-Let.ensures.value ∙ ap boxed c.in-Let.kept-is) in
    let body = c.lane_code-in-Let-2.ensures ∙ ap (λ (e : Code). laned (view e)) (c.deref_mut-in-Let-2.ensures.value ∙ ap boxed c.in-Let.body-is) in
    (λ i. plain.Let (kept i) (body i)) ∙ ap (λ (e : Code). laned (view e)) (sym c.in-Let.is)

pub lane_code-returns-in-Get : goal.lane_code-returns-in-Get
unfolding out-Code out
lane_code-returns-in-Get t c =
    rw c.in-Get.is (ap plain.Get (c.slot-in-Get.ensures ∙ ap (λ (x : Slot). slots c.args.names (view_slot x)) c.in-Get.slot-is))

pub lane_operand-returns-in-Code : goal.lane_operand-returns-in-Code
lane_operand-returns-in-Code t c =
    let code = c.lane_code.ensures ∙ ap (λ (e : Code). code_in (slots c.args.names) plain.Do (view e)) c.in-Code.code-is in
    (λ i. plain.At (code i) plain.End) ∙ ap (λ (o : Operand). codes_in (slots c.args.names) plain.Do (before o plain.End)) (sym c.in-Code.is)
