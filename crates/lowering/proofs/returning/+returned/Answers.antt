use Rattle.std.proofs.Common.{◌≡◌, ◌+◌, suc, subst, arith}
use Rattle.wasm_types.specs.Syntax.{Done}
use Rattle.mid_program.specs.Mid as plain
use Rattle.mid_program.specs.ViewCode.{view}
use Rattle.lower_model.specs.Statements.{returned}
use Rattle.lower_pieces.specs.Emits.{Emits}
use Rattle.lower_expressions.specs.View.{view_layout}
use Rattle.lower_pieces.proofs.Appended.{◌⨟◌}
use Rattle.lowering.proofs.Choices.{choice_is}
use Rattle.lowering.proofs.returning.+returned.Goals as goal

pub quickly_returned-returns : goal.quickly_returned-returns
quickly_returned-returns t c = λ k.
    let inner : c.args.exit + 1 ≡ suc c.args.exit = omega arith in
    let test = rw inner at c.left_unless_pair.ensures in
    c.returned-2.ensures k ⨟ c.block.ensures _ ((rw inner at c.returned.ensures) Done _ (test _ _ (c.new-so.ensures _))) _

pub either_returned-returns : goal.either_returned-returns
either_returned-returns t c = λ k.
    let inner : c.args.exit + 1 ≡ suc c.args.exit = omega arith in
    c.emit_if.ensures _ _ ((rw inner at c.returned.ensures) Done _ (c.new-so.ensures _)) ((rw inner at c.returned-2.ensures) Done _ (c.new-otherwise.ensures _)) k
    ⨟ c.tested.ensures _

pub returned-returns-in-Some : goal.returned-returns-in-Some
returned-returns-in-Some t c =
    let is = choice_is (view c.args.code.now) (view c.in-Some.test.now) (view c.in-Some.yes.now) (view c.in-Some.no.now) c.in-Some.ensures in
    subst (λ (e : plain.Code). Emits c.args.out.now c.chosen_returned.new.out (returned (view_layout c.args.layout.now) e c.args.exit)) is c.chosen_returned.ensures
