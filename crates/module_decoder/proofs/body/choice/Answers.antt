use Rattle.std.proofs.Common.{sym}
use Rattle.module_decoder.proofs.Loops.{if_is}
use Rattle.module_decoder.proofs.body.choice.Goals as goal

pub returns : goal.returns
returns c = sym (if_is c.args.kind c.args.yes.items c.args.no.items c.in_ok-yes.yes c.in_ok-held.field-0 c.in_ok-yes.ensures c.in_ok-held.ensures)
