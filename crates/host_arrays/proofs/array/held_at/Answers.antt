use Rattle.std.proofs.Common.{ap, sym, ◌∙◌}
use Rattle.std.specs.Cmp.Lexicographic.{bytes_decides}
use Rattle.host_arrays.specs.Order.{held_in}
use Rattle.host_arrays.proofs.array.held_at.Goals as goal

pub returns-then-is : goal.returns-then-is
returns-then-is c =
    let same = (bytes_decides c.args.key.now c.in_ok-own.own.now).0 (sym c.is.ensures ∙ c.if-is.true) in
    ap (held_in c.args.pairs.now.entries) same ∙ c.in_ok-own.ensures.value
