use Rattle.module_decoder.specs.Readers.{vec_at}
use Rattle.module_decoder.proofs.Steps.{whole_is}
use Rattle.module_decoder.proofs.entries.fill.Goals as goal

pub returns : goal.returns
returns g c = whole_is (λ p. vec_at p (g.K.Kind.reads p)) c.entries.ensures c.ended.ensures
