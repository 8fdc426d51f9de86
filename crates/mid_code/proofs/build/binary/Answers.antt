use Rattle.std.proofs.Common.{ap}
use Rattle.std.proofs.lemmas.Result.{IfOk-weaker}
use Rattle.mid_program.specs.ViewCode.{views}
use Rattle.mid_code.proofs.build.binary.Goals as goal

pub returns : goal.returns
returns c = c.done.ensures _ (IfOk-weaker c.pair.result _ _ (λ r h. ap views h) c.pair.ensures)
