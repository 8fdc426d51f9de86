use Rattle.std.proofs.Common.{map, arith}
use Rattle.mid_program.specs.View.{view_kind}
use Rattle.mid_program.specs.ViewCode.{views}
use Rattle.lower_pieces.specs.Forms.{view_form}
use Rattle.lower_pieces.proofs.Appended.{same}
use Rattle.lower_expressions.specs.View.{view_layout}
use Rattle.lower_expressions.proofs.WalkLemmas.{count_code, count_least, no_parameter, none_given}
use Rattle.lower_expressions.proofs.walks.+all_given.Goals as goal

pub returns-in_default : goal.returns-in_default
returns-in_default t c = λ k. same (none_given (view_layout c.args.layout.now) (map view_form c.args.forms.now) (map view_kind c.args.kinds.now) c.args.operands.now c.args.temporary k c.in_default.ensures.cases)

pub returns-in_default-split_first : goal.returns-in_default-split_first
returns-in_default-split_first t c = λ k. same (no_parameter view_kind (view_layout c.args.layout.now) (map view_form c.args.forms.now) c.args.kinds.now (views c.args.operands.now) c.args.temporary k c.in_default-split_first.ensures.cases)

pub all_given-requires : goal.all_given-requires
all_given-requires t c =
    let n = count_code c.args.operands.now c.in-Some.operands.now c.in-Some.operand.now _ c.in-Some.ensures.cases.0 c.in-Code-Some.is-0 in
    let l = c.in-Some.ensures.cases.1 in
    (omega (arith, l), omega (arith, n))

pub all_given-requires-in_default-2 : goal.all_given-requires-in_default-2
all_given-requires-in_default-2 t c =
    let n = count_least c.args.operands.now c.in-Some.operands.now c.in-Some.operand.now c.in-Some.ensures.cases.0 in
    let l = c.in-Some.ensures.cases.1 in
    (omega (arith, l), omega (arith, n))
