use Rattle.world_core.specs.Calls.{OpensToRead}
use Rattle.world_core.specs.Memory.{memory_state, outside_of, source_of}
use Rattle.world_core.proofs.memory.MemWorldWorld.open_read.Goals as goal

pub returns-clause-told : goal.returns-clause-told
returns-clause-told c = λ tells.
    let w = c.args.self.now in
    let done : OpensToRead c.args.name.now (memory_state (source_of w.input) (outside_of w.output c.deref.result.now) w.streams.items) c.open_to_read-opened.result
    (memory_state (source_of w.input) (outside_of w.output c.deref.result.now) c.open_to_read-opened.new.streams.items)
    = c.open_to_read-opened.ensures.told (source_of w.input) w.output in
    rw c.counted.ensures.result (rw c.deref.ensures.value at done)
