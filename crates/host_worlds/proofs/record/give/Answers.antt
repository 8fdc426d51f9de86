use Rattle.std.proofs.Common.{ap}
use Rattle.host_texts.specs.States.{with_texts}
use Rattle.host_worlds.proofs.record.give.Goals as goal

pub returns : goal.returns
returns c = λ inner. ap (λ s. record (with_texts c.args.texts.now inner) { specials = s }) c.put.ensures
