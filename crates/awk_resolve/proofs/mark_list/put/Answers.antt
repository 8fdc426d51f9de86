use Rattle.std.proofs.Common.{Ok, refl}
use Rattle.latched.proofs.LatchedLemmas.{adds_one}
use Rattle.awk_resolve.specs.View.{view_mark}
use Rattle.awk_resolve.proofs.mark_list.put.Goals as goal

pub returns : goal.returns
returns c = adds_one view_mark (Ok c.args.mark) (view_mark c.args.mark) c.push.ensures.added refl
