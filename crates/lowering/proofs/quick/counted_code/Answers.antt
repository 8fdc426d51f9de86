use Rattle.std.proofs.Common.{◌≡◌, ◌+◌, suc, arith}
use Rattle.lowering.proofs.quick.counted_code.Goals as goal

pub returns : goal.returns
returns c =
    let inner : c.args.label + 1 ≡ suc c.args.label = omega arith in
    rw (c.name_read.ensures, c.from.ensures, c.number.ensures, c.row_call.ensures, c.row_call-2.ensures, c.relation.ensures, c.contrary.ensures, inner) at c.code_of.ensures
