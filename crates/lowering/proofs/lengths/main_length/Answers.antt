use Rattle.std.proofs.Common.{arith}
use Rattle.mid_program.specs.View.{view_mid}
use Rattle.lower_model.specs.Statements.{steps_emitted}
use Rattle.lower_expressions.specs.View.{view_layout}
use Rattle.lowering.specs.Lengths.{Weighs}
use Rattle.lowering.proofs.Weighing.{all_within, begin_within, both_within, end_within}
use Rattle.lowering.proofs.lengths.main_length.Goals as goal

pub returns-then-begin-gt-MOST_BYTES : goal.returns-then-begin-gt-MOST_BYTES
returns-then-begin-gt-MOST_BYTES c =
    let y = view_layout c.args.layout.now in
    let p = view_mid c.args.layout.now.script.now.program.now in
    let begin : Weighs c.in_ok-begin.begin (steps_emitted y p.begin 0 0 0 0) = rw c.deref.ensures.value at c.in_ok-begin.ensures in
    begin_within y p c.in_ok-begin.begin begin

pub returns-then-end-gt-MOST_BYTES : goal.returns-then-end-gt-MOST_BYTES
returns-then-end-gt-MOST_BYTES c =
    let y = view_layout c.args.layout.now in
    let p = view_mid c.args.layout.now.script.now.program.now in
    let end : Weighs c.in_ok-end.end (steps_emitted y p.end 0 0 0 0) = rw c.deref-2.ensures.value at c.in_ok-end.ensures in
    end_within y p c.in_ok-end.end end

pub returns-then-not-program : goal.returns-then-not-program
returns-then-not-program c =
    let y = view_layout c.args.layout.now in
    let p = view_mid c.args.layout.now.script.now.program.now in
    let begin : Weighs c.in_ok-begin.begin (steps_emitted y p.begin 0 0 0 0) = rw c.deref.ensures.value at c.in_ok-begin.ensures in
    let end : Weighs c.in_ok-end.end (steps_emitted y p.end 0 0 0 0) = rw c.deref-2.ensures.value at c.in_ok-end.ensures in
    let sum = c.saturating_add-outside.ensures in
    both_within y p c.in_ok-begin.begin c.in_ok-end.end c.saturating_add-outside.result begin end (omega (arith, sum))

pub returns-then-items-gt-MOST_BYTES : goal.returns-then-items-gt-MOST_BYTES
returns-then-items-gt-MOST_BYTES c =
    let y = view_layout c.args.layout.now in
    let p = view_mid c.args.layout.now.script.now.program.now in
    let begin : Weighs c.in_ok-begin.begin (steps_emitted y p.begin 0 0 0 0) = rw c.deref.ensures.value at c.in_ok-begin.ensures in
    let end : Weighs c.in_ok-end.end (steps_emitted y p.end 0 0 0 0) = rw c.deref-2.ensures.value at c.in_ok-end.ensures in
    let items : Weighs c.in_ok-items.items (steps_emitted y p.items 0 0 0 0) = rw c.deref-3.ensures.value at c.in_ok-items.ensures in
    all_within y p c.in_ok-begin.begin c.in_ok-end.end c.in_ok-items.items c.in_ok-items.items begin c.if-begin-gt-MOST_BYTES.false end c.if-not-program.false items (omega arith)

pub returns : goal.returns
returns c =
    let y = view_layout c.args.layout.now in
    let p = view_mid c.args.layout.now.script.now.program.now in
    let begin : Weighs c.in_ok-begin.begin (steps_emitted y p.begin 0 0 0 0) = rw c.deref.ensures.value at c.in_ok-begin.ensures in
    let end : Weighs c.in_ok-end.end (steps_emitted y p.end 0 0 0 0) = rw c.deref-2.ensures.value at c.in_ok-end.ensures in
    let items : Weighs c.in_ok-items.items (steps_emitted y p.items 0 0 0 0) = rw c.deref-3.ensures.value at c.in_ok-items.ensures in
    let one = c.saturating_add-outside.ensures in
    let two = c.saturating_add.ensures in
    all_within y p c.in_ok-begin.begin c.in_ok-end.end c.in_ok-items.items c.saturating_add.result begin c.if-begin-gt-MOST_BYTES.false end c.if-not-program.false items
    (omega (arith, one, two))
