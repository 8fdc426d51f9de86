use Rattle.world_core.specs.Memory.{source_of, outside_of}
use Rattle.world_core.proofs.StreamLemmas.{reader-stands, kinds-kept, reads}
use Rattle.world_core.proofs.memory.MemWorldWorld.read.Goals as goal

pub returns-clause-kinds : goal.returns-clause-kinds
returns-clause-kinds c =
    kinds-kept c.args.self.now.streams.items c.args.id c.read_stream.new.stream (reader-stands c.args.self.now.streams.items c.args.id c.if-id-eq0.false c.requires) c.read_stream.ensures.kind

pub returns-clause-told : goal.returns-clause-told
returns-clause-told c = λ tells.
    let w = c.args.self.now in
    rw c.counted-2.ensures.result
    (reads (source_of w.input) (outside_of w.output w.files.items) w.streams.items c.args.id c.index_mut-stream.result.now c.read_stream.new.stream c.read_stream.result c.args.buffer.now c.read_stream.new.buffer
    (reader-stands w.streams.items c.args.id c.if-id-eq0.false c.requires) c.index_mut-stream.ensures.value c.read_stream.ensures.writer c.read_stream.ensures.gives)
