use Rattle.std.proofs.Common.{◌≡◌, sym, ◌∙◌, ap}
use Rattle.world_core.specs.WorldState.{Named}
use Rattle.world_core.specs.Memory.{entry_of, entry_at, source_of, outside_of, writers_of}
use Rattle.world_core.proofs.StateLemmas.{writes, outside-output, outside-one}
use Rattle.world_core.proofs.TraceLemmas.{does-writing}
use Rattle.world_core.proofs.memory.MemWorldWorld.write.Goals as goal

pub returns-then-id-eq1-clause-told : goal.returns-then-id-eq1-clause-told
returns-then-id-eq1-clause-told c = λ tells.
    let w = c.args.self.now in
    rw (c.counted.ensures.result, c.if-id-eq1.true)
    (writes 1 c.args.text.now c.write_file.result (source_of w.input) (outside_of w.output w.files.items) (outside_of c.write_file.new.file w.files.items) w.streams.items (entry_of c.write_file.new.file)
    c.write_file.ensures (outside-output w.output c.write_file.new.file w.files.items))

pub returns-clause-told : goal.returns-clause-told
returns-clause-told c = λ tells.
    let w = c.args.self.now in
    let name = c.written_name-name.result.now in
    let files = c.write_named-written.new.files.items in
    let target : writers_of w.streams.items c.args.id ≡ Named name = ap (λ s. writers_of s c.args.id) (sym c.deref.ensures.value) ∙ c.written_name-name.ensures in
    rw c.counted-2.ensures.result
    (writes c.args.id c.args.text.now c.write_named-written.result (source_of w.input) (outside_of w.output w.files.items) (outside_of w.output files) w.streams.items (entry_at files name)
    (rw target c.write_named-written.ensures.entry)
    (rw target (outside-one w.output w.files.items files name c.write_named-written.ensures.others)))

pub returns-then-id-eq1-clause-did : goal.returns-then-id-eq1-clause-did
returns-then-id-eq1-clause-did c = does-writing c.args.id c.args.text.now c.counted.result _ _ (returns-then-id-eq1-clause-told c tt)

pub returns-clause-did : goal.returns-clause-did
returns-clause-did c = does-writing c.args.id c.args.text.now c.counted-2.result _ _ (returns-clause-told c tt)
