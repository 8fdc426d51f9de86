use Rattle.std.specs.declared.boxed.Box.{Box}
use Rattle.std.specs.declared.alloc.Global.{Global}
use Rattle.std.specs.declared.vec.Vec.{Vec}
use Rattle.mid_program.specs.declared.code.Operand.{Operand}
use Rattle.std.proofs.Common.{◌≡◌, ◌∷◌, length, drop, map, refl, ap, sym, ◌∙◌, arith, to_z-of_z}
use Rattle.mid_program.specs.Mid as plain
use Rattle.mid_program.specs.ViewCode.{before, joined, view, view_row, view_slot, views}
use Rattle.mid_program.specs.declared.code.Code.{Code, out-Code}
use Rattle.mid_program.specs.declared.code.Code.TheBlock.{hidden-the_row-Operand-0, seen-the_row-Operand-0, shape-the_row-Operand-0, shown-the_row-Operand-0}
use denote.Hole.Carrier.{out}
use Rattle.mid_program.proofs.Views.{view_codes, view_joined}
use Rattle.folding.specs.Folding.{folded, reduced, same, value_of}
use Rattle.folding.specs.View.{numeral}
use Rattle.mid_program.specs.Rewriting.{codes_in}
use Rattle.mid_program.proofs.Joining.{joined_in}
use Rattle.folding.proofs.Views.{CodeDone, OperandDone, codes_done, done_next, none_reduced, operands_of, operands_done, some_fits, rest_next, some_reduced, view_do, written_back}
use Rattle.folding.proofs.code.+folding.Goals as goal

pub fold_operands-loop-operand-preserved : goal.fold_operands-loop-operand-preserved
fold_operands-loop-operand-preserved t c = record {
  rest = rest_next c.loop-operand.operand-items c.deref_mut-operand-items.result.now c.loop-operand.operand-index c.fold_operand.new.operand c.loop-operand.invariant.rest;
  done = done_next OperandDone c.loop-operand.operand-index c.loop-operand.operand-items c.args.operands.now.items c.operand-item.result c.fold_operand.new.operand (omega arith) c.loop-operand.invariant.done c.fold_operand.ensures;
}

pub fold_operands-returns : goal.fold_operands-returns
fold_operands-returns t c =
    ap views (written_back c.args.operands.now.len c.loop-operand.operand-items (drop (length c.loop-operand.operand-items) c.args.operands.now.items) (omega arith))
    ∙ operands_done c.loop-operand.operand-index c.loop-operand.operand-items c.args.operands.now.items (omega arith) c.loop-operand.invariant.done

pub fold_codes-loop-code-preserved : goal.fold_codes-loop-code-preserved
fold_codes-loop-code-preserved t c = record {
  rest = rest_next c.loop-code.code-items c.deref_mut-code-items.result.now c.loop-code.code-index c.fold_code.new.code c.loop-code.invariant.rest;
  done = done_next CodeDone c.loop-code.code-index c.loop-code.code-items c.args.codes.now.items c.code-item.result c.fold_code.new.code (omega arith) c.loop-code.invariant.done c.fold_code.ensures;
}

pub fold_codes-returns : goal.fold_codes-returns
fold_codes-returns t c =
    ap (map view) (written_back c.args.codes.now.len c.loop-code.code-items (drop (length c.loop-code.code-items) c.args.codes.now.items) (omega arith))
    ∙ codes_done c.loop-code.code-index c.loop-code.code-items c.args.codes.now.items (omega arith) c.loop-code.invariant.done

abbrev boxed : Box Code Global → Code
boxed b = b.value

pub fold_code-returns-in-Joined : goal.fold_code-returns-in-Joined
fold_code-returns-in-Joined t c =
    let start = c.deref_mut.ensures.value ∙ ap boxed c.in-Joined.first-is in
    let end = c.deref_mut-in-Joined.ensures.value ∙ ap boxed c.in-Joined.last-is in
    let first = c.fold_code.ensures ∙ ap (λ (e : Code). folded (view e)) start in
    let last = c.fold_code-in-Joined.ensures ∙ ap (λ (e : Code). folded (view e)) end in
    let others = view_codes c.fold_codes.new.codes ∙ c.fold_codes.ensures ∙ ap (λ (v : Vec Code Global). map folded (map view v.items)) c.in-Joined.others-is in
    (λ i. joined (first i ∷ others i) (last i))
    ∙ joined_in same reduced (λ a b. refl) (view c.in-Joined.first.value ∷ map view c.in-Joined.others.items) (view c.in-Joined.last.value)
    ∙ ap folded (sym (ap view c.in-Joined.is ∙ view_joined c.in-Joined.first c.in-Joined.others c.in-Joined.last))

pub fold_code-returns-in-Some : goal.fold_code-returns-in-Some
fold_code-returns-in-Some t c =
    let o = c.in-Do.operation in
    let es = views c.fold_operands.new.operands.items in
    let done = c.fold_operands.ensures ∙ ap (λ (v : Vec Operand Global). codes_in same reduced (views v.items)) c.in-Do.operands-is in
    let is : c.value_of.result ≡ numeral (value_of o es) = cc in
    c.set_number.ensures ∙ ap plain.Number (to_z-of_z (some_fits o es c.in-Some.number c.value_of.result is c.in-Some.is)) ∙ some_reduced o es c.in-Some.number c.value_of.result is c.in-Some.is ∙ ap (reduced o) done
    ∙ ap folded (sym (ap view c.in-Do.is ∙ view_do o c.in-Do.operands))

pub fold_code-returns-in-None : goal.fold_code-returns-in-None
fold_code-returns-in-None t c =
    let o = c.in-Do.operation in
    let es = views c.fold_operands.new.operands.items in
    let done = c.fold_operands.ensures ∙ ap (λ (v : Vec Operand Global). codes_in same reduced (views v.items)) c.in-Do.operands-is in
    let is : c.value_of.result ≡ numeral (value_of o es) = cc in
    (λ i. plain.Do (c.in-Do.operation-is i) (operands_of c.fold_operands.new.operands i)) ∙ none_reduced o es c.value_of.result is c.in-None.is ∙ ap (reduced o) done
    ∙ ap folded (sym (ap view c.in-Do.is ∙ view_do o c.in-Do.operands))

-- operands that were hidden in code, and shown again
abbrev again : Vec Operand Global → Vec Operand Global
again v = shown-the_row-Operand-0 (shape-the_row-Operand-0 v) (hidden-the_row-Operand-0 v)

done_again : (new old : Vec Operand Global) → views new.items ≡ codes_in same reduced (views (again old).items) →
    view_row (hidden-the_row-Operand-0 new) ≡ codes_in same reduced (view_row (hidden-the_row-Operand-0 old))
done_again new old e =
    operands_of new ∙ e ∙ ap (λ (v : Vec Operand Global). codes_in same reduced (views v.items)) (seen-the_row-Operand-0 old) ∙ ap (codes_in same reduced) (sym (operands_of old))

pub fold_code-returns-in-Over : goal.fold_code-returns-in-Over
unfolding out-Code out
fold_code-returns-in-Over t c =
    let done : views c.fold_operands-in-Over.new.operands.items ≡ codes_in same reduced (views (again c.in-Over.operands).items) = rw c.in-Over.is at c.fold_operands-in-Over.ensures in
    let operands = done_again c.fold_operands-in-Over.new.operands c.in-Over.operands done in
    rw c.in-Over.is (λ i. plain.Over c.in-Over.field-0 (operands i))

pub fold_code-returns-in-Call : goal.fold_code-returns-in-Call
unfolding out-Code out
fold_code-returns-in-Call t c =
    let done : views c.fold_operands-in-Call.new.operands.items ≡ codes_in same reduced (views (again c.in-Call.operands).items) = rw c.in-Call.is at c.fold_operands-in-Call.ensures in
    let operands = done_again c.fold_operands-in-Call.new.operands c.in-Call.operands done in
    rw c.in-Call.is (λ i. plain.Call c.in-Call.field-0 (operands i))

pub fold_code-returns-in-Replace : goal.fold_code-returns-in-Replace
unfolding out-Code out
fold_code-returns-in-Replace t c =
    let done : views c.fold_operands-in-Replace.new.operands.items ≡ codes_in same reduced (views (again c.in-Replace.operands).items) = rw c.in-Replace.is at c.fold_operands-in-Replace.ensures in
    let operands = done_again c.fold_operands-in-Replace.new.operands c.in-Replace.operands done in
    let store : view c.fold_code-in-Replace.new.code ≡ folded (view c.in-Replace.store.value) = rw c.in-Replace.is at (c.fold_code-in-Replace.ensures ∙ ap (λ (e : Code). folded (view e)) c.deref_mut-in-Replace.ensures.value) in
    rw c.in-Replace.is (λ i. plain.Replace c.in-Replace.field-0 (operands i) (store i))

pub fold_code-returns-in-Compare : goal.fold_code-returns-in-Compare
unfolding out-Code out
fold_code-returns-in-Compare t c =
    let left : view c.fold_code-in-Compare.new.code ≡ folded (view c.in-Compare.left.value) = rw c.in-Compare.is at (c.fold_code-in-Compare.ensures ∙ ap (λ (e : Code). folded (view e)) c.deref_mut-in-Compare.ensures.value) in
    let right : view c.fold_code-in-Compare-2.new.code ≡ folded (view c.in-Compare.right.value) = rw c.in-Compare.is at (c.fold_code-in-Compare-2.ensures ∙ ap (λ (e : Code). folded (view e)) c.deref_mut-in-Compare-2.ensures.value) in
    rw c.in-Compare.is (λ i. plain.Compare c.in-Compare.field-0 (left i) (right i))

pub fold_code-returns-in-AskLine : goal.fold_code-returns-in-AskLine
unfolding out-Code out
fold_code-returns-in-AskLine t c =
    let store = c.fold_code-in-AskLine.ensures ∙ ap (λ (e : Code). folded (view e)) (c.deref_mut-in-AskLine.ensures.value ∙ ap boxed c.in-AskLine.store-is) in
    rw c.in-AskLine.is (ap plain.AskLine store)

pub fold_code-returns-in-FileLine : goal.fold_code-returns-in-FileLine
fold_code-returns-in-FileLine t c =
    let file = c.fold_code-in-FileLine.ensures ∙ ap (λ (e : Code). folded (view e)) (c.deref_mut-in-FileLine.ensures.value ∙ ap boxed c.in-FileLine.file-is) in
    let store = c.fold_code-in-FileLine-2.ensures ∙ ap (λ (e : Code). folded (view e)) (c.deref_mut-in-FileLine-2.ensures.value ∙ ap boxed c.in-FileLine.store-is) in
    (λ i. plain.FileLine (file i) (store i)) ∙ ap (λ (e : Code). folded (view e)) (sym c.in-FileLine.is)

pub fold_code-returns-in-Set : goal.fold_code-returns-in-Set
unfolding out-Code out
fold_code-returns-in-Set t c =
    let value : view c.fold_code-in-Set.new.code ≡ folded (view c.in-Set.value.value) = rw c.in-Set.is at (c.fold_code-in-Set.ensures ∙ ap (λ (e : Code). folded (view e)) c.deref_mut-in-Set.ensures.value) in
    rw c.in-Set.is (λ i. plain.Set (view_slot c.in-Set.field-0) (value i))

pub fold_code-returns-in-Choose : goal.fold_code-returns-in-Choose
unfolding out-Code out
fold_code-returns-in-Choose t c =
    let test : view c.fold_code-in-Choose.new.code ≡ folded (view c.in-Choose.test.value) = rw c.in-Choose.is at (c.fold_code-in-Choose.ensures ∙ ap (λ (e : Code). folded (view e)) c.deref_mut-in-Choose.ensures.value) in
    let yes : view c.fold_code-in-Choose-2.new.code ≡ folded (view c.in-Choose.yes.value) = rw c.in-Choose.is at (c.fold_code-in-Choose-2.ensures ∙ ap (λ (e : Code). folded (view e)) c.deref_mut-in-Choose-2.ensures.value) in
    let no : view c.fold_code-in-Choose-3.new.code ≡ folded (view c.in-Choose.no.value) = rw c.in-Choose.is at (c.fold_code-in-Choose-3.ensures ∙ ap (λ (e : Code). folded (view e)) c.deref_mut-in-Choose-3.ensures.value) in
    rw c.in-Choose.is (λ i. plain.Choose c.in-Choose.field-0 (test i) (yes i) (no i))

pub fold_code-returns-in-Seq : goal.fold_code-returns-in-Seq
fold_code-returns-in-Seq t c =
    let first = c.fold_code-in-Seq.ensures ∙ ap (λ (e : Code). folded (view e)) (c.deref_mut-in-Seq.ensures.value ∙ ap boxed c.in-Seq.first-is) in
    let second = c.fold_code-in-Seq-2.ensures ∙ ap (λ (e : Code). folded (view e)) (c.deref_mut-in-Seq-2.ensures.value ∙ ap boxed c.in-Seq.second-is) in
    (λ i. plain.Seq (first i) (second i)) ∙ ap (λ (e : Code). folded (view e)) (sym c.in-Seq.is)

pub fold_code-returns-in-Let : goal.fold_code-returns-in-Let
fold_code-returns-in-Let t c =
    let kept = c.fold_code-in-Let.ensures ∙ ap (λ (e : Code). folded (view e)) (c.deref_mut-in-Let.ensures.value ∙ ap boxed c.in-Let.kept-is) in
    let body = c.fold_code-in-Let-2.ensures ∙ ap (λ (e : Code). folded (view e)) (c.deref_mut-in-Let-2.ensures.value ∙ ap boxed c.in-Let.body-is) in
    (λ i. plain.Let (kept i) (body i)) ∙ ap (λ (e : Code). folded (view e)) (sym c.in-Let.is)

pub fold_operand-returns-in-Code : goal.fold_operand-returns-in-Code
fold_operand-returns-in-Code t c =
    let code = c.fold_code.ensures ∙ ap (λ (e : Code). folded (view e)) c.in-Code.code-is in
    (λ i. plain.At (code i) plain.End) ∙ ap (λ (o : Operand). codes_in same reduced (before o plain.End)) (sym c.in-Code.is)
