use Rattle.std.proofs.Common.{sym, ◌∙◌}
use Rattle.mid_program.specs.ViewCode.{view, views}
use Rattle.lower_quick.proofs.Shapes.{taker_is}
use Rattle.lower_quick.proofs.tally.taker_at.Goals as goal

pub returns-then-is_bound-2 : goal.returns-then-is_bound-2
returns-then-is_bound-2 c =
    c.array_here.ensures
    ∙ taker_is c.args.moves c.args.after (views c.args.operands.now) (view c.in_ok-array.array.now) (view c.in_ok-array.key.now) (view c.in_ok-array.value.now) c.in_ok-array.ensures (sym (c.if-is_bound.ensures)) (sym (c.if-is_bound-2.ensures))
