use Rattle.std.proofs.Common.{◌≡◌, ◌+◌, length, ap, arith}
use Rattle.world_os.proofs.OsStreamLemmas.{added}
use Rattle.world_os.proofs.world.add_stream.Goals as goal

pub returns-clause-opened : goal.returns-clause-opened
returns-clause-opened g c =
    let size : length c.as_slice.result.now ≡ length c.args.streams.now.items = ap length c.as_slice.ensures.value in
    let id : c.in-Ok.id ≡ length c.args.streams.now.items + 2 = omega (arith, c.in-Ok.ensures) in
    rw c.in-Ok-push.ensures.items (added c.args.streams.now.items c.args.stream c.in-Ok.id id)
