use Rattle.std.proofs.Common.{map, arith}
use Rattle.mid_program.specs.ViewCode.{views}
use Rattle.lower_pieces.specs.Forms.{view_form}
use Rattle.lower_pieces.proofs.Appended.{same}
use Rattle.lower_expressions.proofs.WalkLemmas.{count_code, count_least, none_converted, none_wanted}
use Rattle.lower_expressions.proofs.walks.+all_converted.Goals as goal

pub returns-in_default : goal.returns-in_default
returns-in_default t c = λ k. same (none_converted c.args.bases.now (map view_form c.args.forms.now) c.args.wanted.now c.args.operands.now c.args.temporary c.args.exit k c.in_default.ensures.cases)

pub returns-in_default-split_first : goal.returns-in_default-split_first
returns-in_default-split_first t c = λ k. same (none_wanted c.args.bases.now (map view_form c.args.forms.now) c.args.wanted.now (views c.args.operands.now) c.args.temporary c.args.exit k c.in_default-split_first.ensures.cases)

pub all_converted-requires : goal.all_converted-requires
all_converted-requires t c =
    let n = count_code c.args.operands.now c.in-Some.operands.now c.in-Some.operand.now _ c.in-Some.ensures.cases.0 c.in-Of-Code-Some.is-1 in
    let l = c.in-Some.ensures.cases.1 in
    (omega (arith, l), (omega (arith, n), omega arith))

pub all_converted-requires-in_default-Constant-default : goal.all_converted-requires-in_default-Constant-default
all_converted-requires-in_default-Constant-default t c =
    let n = count_least c.args.operands.now c.in-Some.operands.now c.in-Some.operand.now c.in-Some.ensures.cases.0 in
    let l = c.in-Some.ensures.cases.1 in
    (omega (arith, l), (omega (arith, n), omega arith))
