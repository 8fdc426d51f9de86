use Rattle.std.proofs.Common.{◌≡◌, ◌+◌, suc, arith}
use Rattle.lower_pieces.proofs.Appended.{◌⨟◌}
use Rattle.lowering.proofs.main_parts.part_left.Goals as goal

pub returns : goal.returns
returns c = λ k.
    let inner : c.args.exit + 1 ≡ suc c.args.exit = omega arith in
    c.goes_on.ensures k ⨟ (rw inner at c.fail_if.ensures) _ ⨟ (rw inner at c.emit_all.ensures) _
