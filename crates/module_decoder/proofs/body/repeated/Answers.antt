use Rattle.std.proofs.Common.{sym}
use Rattle.module_decoder.proofs.Loops.{loop_is}
use Rattle.module_decoder.proofs.body.repeated.Goals as goal

pub returns : goal.returns
returns c = sym (loop_is c.args.kind c.args.inner.items c.in_ok-held.field-0 c.in_ok-held.ensures)
