use Rattle.world_os.proofs.GivenLemmas.{close_gives}
use Rattle.world_os.proofs.world.OsWorldWorld.close.Goals as goal

pub returns-clause-did : goal.returns-clause-did
returns-clause-did g c = close_gives _ _ c.args.self.now.streams.items c.args.id _ _ c.requires.own c.requires.open
