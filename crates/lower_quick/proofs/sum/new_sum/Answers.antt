use Rattle.std.proofs.Common.{rules, Option, Some, ap, sym, ◌∙◌}
use Rattle.std.proofs.lemmas.Int.{to_z-of_z}
use Rattle.std.specs.Int.{w64}
use Rattle.std.specs.Prelude.{FitsSigned, ℤ}
use Rattle.std.specs.Option.{option_map}
use Rattle.mid_program.specs.ViewCode.{view}
use Rattle.lower_model.specs.Quick.{Constant, new_sum, sum_of}
use Rattle.lower_quick.specs.declared.source.Holder.{Holder}
use Rattle.lower_quick.specs.View.{view_holder, view_source}
use Rattle.lower_quick.proofs.Shapes.{no_new, summed_is, unfixed_is, unkept_is}
use Rattle.lower_quick.proofs.sum.new_sum.Goals as goal

pub returns-then-not-is_bound : goal.returns-then-not-is_bound
returns-then-not-is_bound c =
    unkept_is (option_map view_source c.args.old) (option_map view_holder c.args.target) (view c.args.code.now)
    c.in_ok-op.op (view c.in_ok-op.left.now) (view c.in_ok-op.right.now) c.in_ok-op.ensures (sym c.if-not-is_bound.ensures)

pub returns-in_err-op : goal.returns-in_err-op
returns-in_err-op c = rw c.from_residual-in_err-op.ensures (no_new (option_map view_source c.args.old) (option_map view_holder c.args.target) (view c.args.code.now) c.in_err-op.ensures)

pub returns-in_err-number : goal.returns-in_err-number
returns-in_err-number c =
    rw c.from_residual-in_err-number.ensures (unfixed_is (option_map view_source c.args.old) (option_map view_holder c.args.target) (view c.args.code.now)
    c.in_ok-op.op (view c.in_ok-op.left.now) (view c.in_ok-op.right.now) c.in_ok-op.ensures c.in_err-number.ensures)

pub returns : goal.returns
returns c =
    let old = option_map view_source c.args.old in
    let code = view c.args.code.now in
    let target = view_holder c.in_ok-target.target in
    let number = c.in_ok-number.number in
    let fits : FitsSigned w64 number = search rules in
    c.sum_of.ensures ∙ ap (λ (n : ℤ). sum_of target c.in_ok-op.op old (Some (Constant n))) (to_z-of_z w64 number fits)
    ∙ summed_is old target code c.in_ok-op.op (view c.in_ok-op.left.now) (view c.in_ok-op.right.now) number c.in_ok-op.ensures (sym c.if-not-is_bound.ensures) c.in_ok-number.ensures
    ∙ ap (λ (i : Option Holder). new_sum old (option_map view_holder i) code) (sym c.in_ok-target.was)
