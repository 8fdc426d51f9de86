use Rattle.std.proofs.Common.{◌≡◌, ◌+◌, Bool, if◌then◌else◌, suc, ap, sym, ◌∙◌, subst, arith}
use Rattle.wasm_types.specs.Syntax.{Instructions, Done}
use Rattle.mid_program.specs.ViewCode.{view, view_array, view_step}
use Rattle.mid_program.specs.declared.step.Step.{Step}
use Rattle.lower_model.specs.Statements.{block, step_emitted}
use Rattle.lower_pieces.specs.Emits.{Emits}
use Rattle.lower_expressions.specs.View.{view_layout}
use Rattle.lower_pieces.proofs.Appended.{◌⨟◌, same}
use Rattle.lowering.proofs.Stepping.{block_code, block_fits, block_places, break_code, choice_code, continue_code, eval_code, exit_code, first_fits, first_places, keys_code, loop_code, mark_code, next_code, return_code, status_code}
use Rattle.lowering.proofs.steps.+statements.Goals as goal

pub plain_choice-returns : goal.plain_choice-returns
plain_choice-returns t c = λ k.
    c.emit_if.ensures _ _ ((rw c.in_branch.ensures.is at c.inner-yes.ensures) Done) ((rw c.in_branch-2.ensures.is at c.inner-no.ensures) Done) k ⨟ c.tested.ensures _

pub quick_choice-returns : goal.quick_choice-returns
quick_choice-returns t c =
    c.block-2.ensures _ ((rw c.in_branch.ensures.is at c.statement.ensures) Done _ (c.block.ensures _ (c.quick_way.ensures Done _ (c.new-way.ensures _)) _ _ (c.new-ways.ensures _)))

pub turn_body-returns-then-step_jumps : goal.turn_body-returns-then-step_jumps
turn_body-returns-then-step_jumps t c =
    let y = view_layout c.args.layout.now in
    let a = view_step c.args.body.now in
    let u = c.args.at.iterators in
    let d = c.args.at.exit in
    let body : Instructions → Instructions = step_emitted y a u (suc (suc (suc d))) 2 0 in
    subst (λ (jumps : Bool). Emits c.args.out.now c.block.new.out (λ k. if jumps then block (body Done) k else step_emitted y a u (suc (suc d)) 1 0 k)) (sym c.if-step_jumps.true ∙ c.step_jumps.ensures)
    (c.block.ensures _ ((rw c.in_body.ensures.is at c.inner-inside.ensures) Done))

pub first_turn-returns : goal.first_turn-returns
first_turn-returns t c = λ k.
    c.tested_on.ensures k ⨟ (rw c.in_last.ensures.is at c.statement.ensures) _ ⨟ c.block.ensures _ ((rw c.in_body.ensures.is at c.inner-inside.ensures) Done) _

pub key_turn-returns : goal.key_turn-returns
key_turn-returns t c = λ k.
    let at = c.args.at in
    let inner : at.exit + 2 ≡ suc (suc at.exit) = omega arith in
    c.emit.ensures k ⨟ c.block.ensures _ ((rw c.in_keys.ensures.is at c.inner-inside.ensures) Done) _ ⨟ (rw inner at c.key_stored.ensures) _

pub keys-returns : goal.keys-returns
keys-returns t c = λ k. c.iterator_left.ensures k ⨟ c.rounds.ensures _ (c.key_turn.ensures Done _ (c.new-turn.ensures _)) _ ⨟ c.iterator_made.ensures _

pub turn-returns-then-tests_first : goal.turn-returns-then-tests_first
turn-returns-then-tests_first t c = rw c.if-tests_first.true c.tested_turn.ensures

pub turn-returns-else-tests_first : goal.turn-returns-else-tests_first
turn-returns-else-tests_first t c = rw c.if-tests_first.false c.first_turn.ensures

pub looped-returns : goal.looped-returns
looped-returns t c = c.rounds.ensures _ (c.turn.ensures Done _ (c.new-code.ensures _))

pub statement-statements-requires : goal.statement-statements-requires
statement-statements-requires t c =
    let n = block_places c.args.step.now c.in-Block.steps c.deref.result.now c.in-Block.is c.deref.ensures.value in
    (omega (arith, n), (block_fits (view_layout c.args.layout.now) c.args.step.now c.in-Block.steps c.deref.result.now c.args.at.iterators c.args.at.exit c.in-Block.is c.deref.ensures.value c.requires.fit, c.requires.own))

pub statements-statement-requires : goal.statements-statement-requires
statements-statement-requires t c =
    let n = first_places c.args.steps.now c.loop-step.step-index c.step-item.result (omega arith) c.step-item.is in
    let few = c.loop-step.invariant.few in
    (omega (arith, n, few), (first_fits (view_layout c.args.layout.now) c.args.steps.now c.loop-step.step-index c.step-item.result c.args.at.iterators c.args.at.exit (omega arith) c.step-item.is c.loop-step.invariant.fit, c.requires.own))

pub statement-returns-in-Block : goal.statement-returns-in-Block
statement-returns-in-Block t c =
    let y = view_layout c.args.layout.now in
    let at = c.args.at in
    λ k. c.statements.ensures k ⨟ c.emit.ensures _
    ⨟ same (block_code y c.args.step.now c.in-Block.steps c.deref.result.now at.iterators at.exit at.break_to at.continue_to k c.in-Block.is c.deref.ensures.value)

pub statement-returns-in-Eval : goal.statement-returns-in-Eval
statement-returns-in-Eval t c =
    let y = view_layout c.args.layout.now in
    let at = c.args.at in
    λ k. c.done.ensures k ⨟ c.emit.ensures _ ⨟ same (eval_code y (view c.in-Eval.code) at.iterators at.exit at.break_to at.continue_to k
    ∙ sym (ap (λ (s : Step). step_emitted y (view_step s) at.iterators at.exit at.break_to at.continue_to k) c.in-Eval.is))

pub statement-returns-in-If : goal.statement-returns-in-If
statement-returns-in-If t c =
    let y = view_layout c.args.layout.now in
    let at = c.args.at in
    λ k. c.choice.ensures k ⨟ c.emit.ensures _ ⨟ same (rw (c.deref-in-If.ensures, c.deref-in-If-2.ensures) (choice_code y (view c.in-If.test) (view_step c.in-If.yes.value) (view_step c.in-If.no.value) at k)
    ∙ sym (ap (λ (s : Step). step_emitted y (view_step s) at.iterators at.exit at.break_to at.continue_to k) c.in-If.is))

pub statement-returns-in-Loop : goal.statement-returns-in-Loop
statement-returns-in-Loop t c =
    let y = view_layout c.args.layout.now in
    let at = c.args.at in
    λ k. c.looped.ensures k ⨟ c.emit.ensures _
    ⨟ same (rw (c.deref-in-Loop.ensures, c.deref-in-Loop-2.ensures) (loop_code y c.in-Loop.tests_first (view c.in-Loop.test) (view_step c.in-Loop.body.value) (view_step c.in-Loop.last.value) at.iterators at.exit at.break_to at.continue_to k)
    ∙ sym (ap (λ (s : Step). step_emitted y (view_step s) at.iterators at.exit at.break_to at.continue_to k) c.in-Loop.is))

pub statement-returns-in-Each : goal.statement-returns-in-Each
statement-returns-in-Each t c =
    let y = view_layout c.args.layout.now in
    let at = c.args.at in
    λ k. c.keys.ensures k ⨟ c.emit.ensures _ ⨟ same (rw c.deref-in-Each.ensures (keys_code y (view_array c.in-Each.array) (view c.in-Each.store) (view_step c.in-Each.body.value) at.iterators at.exit at.break_to at.continue_to k)
    ∙ sym (ap (λ (s : Step). step_emitted y (view_step s) at.iterators at.exit at.break_to at.continue_to k) c.in-Each.is))

pub statement-returns-in-Break : goal.statement-returns-in-Break
statement-returns-in-Break t c =
    let y = view_layout c.args.layout.now in
    let at = c.args.at in
    λ k. c.emit-in-Break.ensures k ⨟ c.emit.ensures _ ⨟ same (break_code y at.iterators at.exit at.break_to at.continue_to k
    ∙ sym (ap (λ (s : Step). step_emitted y (view_step s) at.iterators at.exit at.break_to at.continue_to k) c.in-Break.is))

pub statement-returns-in-Continue : goal.statement-returns-in-Continue
statement-returns-in-Continue t c =
    let y = view_layout c.args.layout.now in
    let at = c.args.at in
    λ k. c.emit-in-Continue.ensures k ⨟ c.emit.ensures _ ⨟ same (continue_code y at.iterators at.exit at.break_to at.continue_to k
    ∙ sym (ap (λ (s : Step). step_emitted y (view_step s) at.iterators at.exit at.break_to at.continue_to k) c.in-Continue.is))

pub statement-returns-in-Next : goal.statement-returns-in-Next
statement-returns-in-Next t c =
    let y = view_layout c.args.layout.now in
    let at = c.args.at in
    λ k. c.left_by.ensures k ⨟ c.emit.ensures _ ⨟ same (next_code y at.iterators at.exit at.break_to at.continue_to k
    ∙ sym (ap (λ (s : Step). step_emitted y (view_step s) at.iterators at.exit at.break_to at.continue_to k) c.in-Next.is))

pub statement-returns-in-Exit : goal.statement-returns-in-Exit
statement-returns-in-Exit t c =
    let y = view_layout c.args.layout.now in
    let at = c.args.at in
    λ k. c.left_by-in-Exit.ensures k ⨟ c.emit.ensures _ ⨟ same (exit_code y at.iterators at.exit at.break_to at.continue_to k
    ∙ sym (ap (λ (s : Step). step_emitted y (view_step s) at.iterators at.exit at.break_to at.continue_to k) c.in-Exit.is))

pub statement-returns-in-ExitWith : goal.statement-returns-in-ExitWith
statement-returns-in-ExitWith t c =
    let y = view_layout c.args.layout.now in
    let at = c.args.at in
    λ k. c.exit_with.ensures k ⨟ c.emit.ensures _ ⨟ same (status_code y (view c.in-ExitWith.code) at.iterators at.exit at.break_to at.continue_to k
    ∙ sym (ap (λ (s : Step). step_emitted y (view_step s) at.iterators at.exit at.break_to at.continue_to k) c.in-ExitWith.is))

pub statement-returns-in-Return : goal.statement-returns-in-Return
statement-returns-in-Return t c =
    let y = view_layout c.args.layout.now in
    let at = c.args.at in
    λ k. c.returned.ensures k ⨟ c.emit.ensures _ ⨟ same (return_code y (view c.in-Return.code) at.iterators at.exit at.break_to at.continue_to k
    ∙ sym (ap (λ (s : Step). step_emitted y (view_step s) at.iterators at.exit at.break_to at.continue_to k) c.in-Return.is))

pub statement-returns-in-Mark : goal.statement-returns-in-Mark
statement-returns-in-Mark t c =
    let y = view_layout c.args.layout.now in
    let at = c.args.at in
    λ k. c.marked.ensures k ⨟ c.emit.ensures _ ⨟ same (mark_code y c.in-Mark.item c.in-Mark.opens at.iterators at.exit at.break_to at.continue_to k
    ∙ sym (ap (λ (s : Step). step_emitted y (view_step s) at.iterators at.exit at.break_to at.continue_to k) c.in-Mark.is))
