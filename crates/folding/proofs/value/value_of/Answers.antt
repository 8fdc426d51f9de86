use Rattle.std.proofs.Common.{ap, sym, ◌∙◌, arith}
use Rattle.mid_program.specs.Mid.{Codes}
use Rattle.folding.specs.Folding.{value_of}
use Rattle.folding.specs.View.{numeral}
use Rattle.folding.proofs.Views.{left_unknown, many_none, one_is, one_known, one_unknown, range_known, right_unknown, two_are, two_known}
use Rattle.folding.proofs.value.value_of.Goals as goal

pub returns-in_ok-constant_at-in-len1 : goal.returns-in_ok-constant_at-in-len1
returns-in_ok-constant_at-in-len1 c =
    let o = c.args.operation in
    let x = c.operand-item.result in
    let is = one_is c.args.operands.now x (omega arith) (omega arith) c.operand-item.is in
    one_known o c.of_one.result x c.in_ok-constant_at-in-len1.field-0 (sym c.in_ok-constant_at-in-len1.was ∙ c.constant_at.ensures) c.of_one.ensures
    ∙ ap (λ (es : Codes). numeral (value_of o es)) (sym is)

pub returns-in_err-constant_at-in-len1 : goal.returns-in_err-constant_at-in-len1
returns-in_err-constant_at-in-len1 c =
    let o = c.args.operation in
    let x = c.operand-item.result in
    let is = one_is c.args.operands.now x (omega arith) (omega arith) c.operand-item.is in
    c.from_residual.ensures ∙ one_unknown o x (sym c.in_err-constant_at-in-len1.was ∙ c.constant_at.ensures) ∙ ap (λ (es : Codes). numeral (value_of o es)) (sym is)

pub returns-in_err-constant_at-in-len2 : goal.returns-in_err-constant_at-in-len2
returns-in_err-constant_at-in-len2 c =
    let o = c.args.operation in
    let are = two_are c.args.operands.now c.left-item.result c.right-item.result (omega arith) (omega arith) c.left-item.is c.right-item.is in
    c.from_residual-in_err-constant_at-in-len2.ensures ∙ left_unknown o c.left-item.result c.right-item.result (sym c.in_err-constant_at-in-len2.was ∙ c.constant_at-in-len2.ensures)
    ∙ ap (λ (es : Codes). numeral (value_of o es)) (sym are)

pub returns-in_err-constant_at-in-len2-2 : goal.returns-in_err-constant_at-in-len2-2
returns-in_err-constant_at-in-len2-2 c =
    let o = c.args.operation in
    let are = two_are c.args.operands.now c.left-item.result c.right-item.result (omega arith) (omega arith) c.left-item.is c.right-item.is in
    c.from_residual-in_err-constant_at-in-len2-2.ensures ∙ right_unknown o c.left-item.result c.right-item.result (sym c.in_err-constant_at-in-len2-2.was ∙ c.constant_at-in-len2-2.ensures)
    ∙ ap (λ (es : Codes). numeral (value_of o es)) (sym are)

pub returns-in_ok-constant_at-in-len2-2 : goal.returns-in_ok-constant_at-in-len2-2
returns-in_ok-constant_at-in-len2-2 c =
    let o = c.args.operation in
    let x = c.left-item.result in
    let y = c.right-item.result in
    let are = two_are c.args.operands.now x y (omega arith) (omega arith) c.left-item.is c.right-item.is in
    two_known o c.of_two.result x y c.in_ok-constant_at-in-len2.field-0 c.in_ok-constant_at-in-len2-2.field-0 (sym c.in_ok-constant_at-in-len2.was ∙ c.constant_at-in-len2.ensures)
    (sym c.in_ok-constant_at-in-len2-2.was ∙ c.constant_at-in-len2-2.ensures) c.of_two.ensures ∙ ap (λ (es : Codes). numeral (value_of o es)) (sym are)

pub returns-in_default-2 : goal.returns-in_default-2
returns-in_default-2 c = sym (ap numeral (many_none c.args.operation c.args.operands.now c.in_default.len_at_least))

pub of_two-requires-clause-left : goal.of_two-requires-clause-left
of_two-requires-clause-left c = range_known c.left-item.result c.in_ok-constant_at-in-len2.field-0 (sym c.in_ok-constant_at-in-len2.was ∙ c.constant_at-in-len2.ensures)

pub of_two-requires-clause-right : goal.of_two-requires-clause-right
of_two-requires-clause-right c = range_known c.right-item.result c.in_ok-constant_at-in-len2-2.field-0 (sym c.in_ok-constant_at-in-len2-2.was ∙ c.constant_at-in-len2-2.ensures)
