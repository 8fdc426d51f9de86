use Rattle.world_core.proofs.StateLemmas.{after-append, after-others}
use Rattle.world_core.proofs.output_laws.outputs_add_up.Goals as goal

pub returns-clause-follow : goal.returns-clause-follow
returns-clause-follow c = after-append

pub returns-clause-others : goal.returns-clause-others
returns-clause-others c = after-others
