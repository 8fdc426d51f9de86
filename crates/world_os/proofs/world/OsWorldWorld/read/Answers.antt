use Rattle.std.proofs.Common.{refl}
use Rattle.world_core.specs.Calls.{Reading}
use Rattle.world_os.proofs.OsStreamLemmas.{kept, reader_above, not_reading}
use Rattle.world_os.proofs.world.OsWorldWorld.read.Goals as goal

pub returns-in-Reader-clause-kinds : goal.returns-in-Reader-clause-kinds
returns-in-Reader-clause-kinds g c = kept c.args.self.now.streams.items c.args.id _ Reading not_reading (reader_above c.args.self.now.streams.items c.args.id c.if-id-eq0.false c.requires) c.requires refl
