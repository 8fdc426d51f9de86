use Rattle.world_core.specs.Memory.{source_of}
use Rattle.world_core.proofs.TraceLemmas.{does-opening}
use Rattle.world_core.proofs.memory.MemWorldWorld.open_write.Goals as goal

pub returns-clause-told : goal.returns-clause-told
returns-clause-told c = λ tells. rw c.counted.ensures.result (c.open_to_write-opened.ensures.told (source_of c.args.self.now.input) c.args.self.now.output)

pub returns-clause-did : goal.returns-clause-did
returns-clause-did c = does-opening c.args.name.now c.args.append c.counted.result _ _ (returns-clause-told c tt)
