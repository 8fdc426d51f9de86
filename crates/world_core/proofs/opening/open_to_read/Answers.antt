use Rattle.std.proofs.Common.{Result, Ok, Err, IfOk, ℕ, List}
use Rattle.world_core.specs.declared.world.WorldFault.{WorldFault}
use Rattle.world_core.specs.declared.streams.MemStream.{MemStream}
use Rattle.world_core.specs.Calls.{Opens}
use Rattle.world_core.specs.Memory.{kind_of, kinds_of, outside_of, AddsStream}
use Rattle.world_core.proofs.StreamLemmas.{adds-kinds, opens-to-read}
use Rattle.world_core.proofs.opening.open_to_read.Goals as goal

opened : (s : MemStream) (old new : List MemStream) (result : Result ℕ WorldFault) → IfOk result (λ id. AddsStream s id old new) → IfOk result (λ id. Opens (kind_of s) id (kinds_of old) (kinds_of new))
opened s old new (Ok id) adds = adds-kinds adds
opened s old new (Err fault) adds = tt

pub returns-clause-opened : goal.returns-clause-opened
returns-clause-opened c = opened _ c.args.streams.now.items c.add_stream.new.streams.items c.add_stream.result c.add_stream.ensures.ok

pub returns-clause-told : goal.returns-clause-told
returns-clause-told c = λ input output.
    opens-to-read c.args.name.now input (outside_of output c.args.files.now) c.in_ok-source.source c.add_stream.result c.args.streams.now.items c.add_stream.new.streams.items
    c.in_ok-source.ensures c.add_stream.ensures.ok c.add_stream.ensures.err c.add_stream.ensures.not_failed
