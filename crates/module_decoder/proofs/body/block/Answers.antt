use Rattle.std.proofs.Common.{sym}
use Rattle.module_decoder.proofs.Loops.{block_is}
use Rattle.module_decoder.proofs.body.block.Goals as goal

pub returns : goal.returns
returns c = sym (block_is c.args.kind c.args.inner.items c.in_ok-held.field-0 c.in_ok-held.ensures)
