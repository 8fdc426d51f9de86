use Rattle.world_os.proofs.BehindLemmas.{writes-behind}
use Rattle.world_os.proofs.fenced.FencedWorldWorld.write.Goals as goal

pub returns-clause-told : goal.returns-clause-told
returns-clause-told g c = λ told. writes-behind (g.F.Fence.reads c.args.self.now.fence) c.args.id c.args.text.now c.write.result _ _ (c.write.ensures.told told.0)
