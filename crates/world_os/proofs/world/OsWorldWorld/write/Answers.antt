use Rattle.std.proofs.Common.{refl}
use Rattle.world_core.specs.Calls.{Writing}
use Rattle.world_os.proofs.GivenLemmas.{file_gives}
use Rattle.world_os.proofs.OsStreamLemmas.{kept, writer_above, not_writing}
use Rattle.world_os.proofs.world.OsWorldWorld.write.Goals as goal

pub returns-in-Writer-clause-kinds : goal.returns-in-Writer-clause-kinds
returns-in-Writer-clause-kinds g c = kept c.args.self.now.streams.items c.args.id _ Writing not_writing (writer_above c.args.self.now.streams.items c.args.id c.if-id-eq1.false c.requires) c.requires refl

pub returns-in-Writer-clause-did : goal.returns-in-Writer-clause-did
returns-in-Writer-clause-did g c =
    file_gives _ _ c.args.self.now.streams.items c.args.id c.index_mut.result.now _ _ c.args.text.now c.counted_write-in-Writer.result _ _
    (writer_above c.args.self.now.streams.items c.args.id c.if-id-eq1.false c.requires) c.requires c.index_mut.ensures.value c.in-Writer.is c.counted_write-in-Writer.ensures.bytes
