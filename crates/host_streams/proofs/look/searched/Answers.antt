use Rattle.std.proofs.Common.{◌∙◌, ap, sym}
use Rattle.host_streams.specs.Looks.{searched}
use Rattle.host_streams.proofs.Cuts.{all_but_one_is}
use Rattle.host_streams.proofs.look.searched.Goals as goal

pub returns-in-None : goal.returns-in-None
returns-in-None c = c.saturating_sub.ensures ∙ all_but_one_is c.args.bytes.now ∙ ap (λ rs. searched rs c.args.bytes.now) (sym c.in-None.is)
