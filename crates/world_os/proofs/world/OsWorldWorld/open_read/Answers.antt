use Rattle.std.proofs.Common.{IfOk, subst}
use Rattle.world_core.specs.Calls.{Kind, Opens}
use Rattle.world_os.specs.OsStreams.{os_kinds}
use Rattle.world_os.proofs.GivenLemmas.{reader_gives}
use Rattle.world_os.proofs.world.OsWorldWorld.open_read.Goals as goal

pub returns-in-Some-clause-opened : goal.returns-in-Some-clause-opened
returns-in-Some-clause-opened g c =
    subst (λ (kind : Kind). IfOk c.add_stream.result (λ id. Opens kind id (os_kinds c.args.self.now.streams.items) (os_kinds c.add_stream.new.streams.items)))
    c.in-Some.ensures.kind c.add_stream.ensures.opened

pub returns-in-Some-clause-did : goal.returns-in-Some-clause-did
returns-in-Some-clause-did g c =
    reader_gives _ _ c.args.self.now.streams.items c.add_stream.new.streams.items c.in-Some.stream c.add_stream.result _ _
    c.in-Some.ensures.kind c.add_stream.ensures.stream c.add_stream.ensures.others c.add_stream.ensures.err
