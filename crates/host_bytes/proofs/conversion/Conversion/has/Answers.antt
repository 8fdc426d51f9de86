use Rattle.std.proofs.Common.{◌∙◌}
use Rattle.host_bytes.proofs.Conversions.{has_any}
use Rattle.host_bytes.proofs.conversion.Conversion.has.Goals as goal

pub returns : goal.returns
returns c = c.contains.ensures.value ∙ has_any c.args.flag c.args.self.flags.now
