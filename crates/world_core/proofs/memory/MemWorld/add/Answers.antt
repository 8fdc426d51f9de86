use Rattle.std.proofs.Common.{◌≡◌, ap, ◌∙◌, set, cond, ◌==◌, List, ℕ}
use Rattle.std.specs.Cmp.Lexicographic.{pointwise}
use Rattle.world_core.specs.WorldState.{Named, replaced}
use Rattle.world_core.specs.Memory.{entry_of, entry_at, outside_of, source_of, readers_of, writers_of}
use Rattle.world_core.proofs.NameLemmas.{entry_at-write}
use Rattle.world_core.proofs.StateLemmas.{outside-named}
use Rattle.world_core.proofs.memory.MemWorld.add.Goals as goal

pub returns-clause-added : goal.returns-clause-added
returns-clause-added c =
    let w = c.args.self.now in
    let name = c.args.name.now in
    let files = c.place_of.new.files.items in
    let written = set files c.in_ok-at.at (record { name = c.index_mut.result.now.name; file = c.args.file }) in
    let each : (other : List ℕ) → entry_at written other ≡ cond (pointwise ◌==◌ name other) (entry_of c.args.file) (entry_at w.files.items other)
    = λ other. entry_at-write files name c.in_ok-at.at c.index_mut.result.now c.args.file c.in_ok-at.ensures.found c.index_mut.ensures.value other
    ∙ ap (cond (pointwise ◌==◌ name other) (entry_of c.args.file)) (c.in_ok-at.ensures.kept other) in
    let outside : outside_of w.output written ≡ replaced (Named name) (entry_of c.args.file) (outside_of w.output w.files.items) = outside-named w.output w.files.items written name (entry_of c.args.file) each in
    λ i. record { outside = outside i; readers = readers_of (source_of w.input) w.streams.items; writers = writers_of w.streams.items }
