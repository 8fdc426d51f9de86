use Rattle.std.proofs.Common.{◌∙◌, ap, arith}
use Rattle.std.specs.List.{sum_by}
use Rattle.std.proofs.lemmas.List.{take_rest}
use Rattle.host_fields.specs.Held.{text_size}
use Rattle.host_fields.proofs.TextSizes.{cut_size}
use Rattle.host_fields.proofs.sizes.size_of_first.Goals as goal

pub overflow_sub-result : goal.overflow_sub-result
overflow_sub-result c =
    let own = c.args.own.now in
    let cut = c.size_of.ensures.size ∙ ap (sum_by text_size) (take_rest own c.args.count) in
    let all = c.size_of_own-all.ensures.size in
    omega (arith, cut, all, cut_size own c.args.count)

pub returns-then-count-own : goal.returns-then-count-own
returns-then-count-own c =
    let own = c.args.own.now in
    let cut = c.size_of.ensures.size ∙ ap (sum_by text_size) (take_rest own c.args.count) in
    let all = c.size_of_own-all.ensures.size in
    omega (arith, cut, all, cut_size own c.args.count)
