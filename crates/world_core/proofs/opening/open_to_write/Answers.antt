use Rattle.std.proofs.Common.{◌≡◌, ap, sym, ◌∙◌, true, set, cond, List, ℕ, ◌==◌}
use Rattle.std.specs.Cmp.Lexicographic.{pointwise}
use Rattle.world_core.specs.WorldState.{Entry, Outside, opened}
use Rattle.world_core.specs.Memory.{entry_of, entry_at, outside_of, memory_state}
use Rattle.world_core.specs.declared.names.NamedFile.{NamedFile}
use Rattle.world_core.proofs.NameLemmas.{entry_at-place, entry_at-write}
use Rattle.world_core.proofs.StateLemmas.{outside-named, outside-same}
use Rattle.world_core.proofs.StreamLemmas.{adds-kinds, opens-writer}
use Rattle.world_core.proofs.opening.open_to_write.Goals as goal

pub returns-then-not-index-clause-told : goal.returns-then-not-index-clause-told
returns-then-not-index-clause-told c = λ input output.
    let name = c.args.name.now in
    let here = entry_at-place c.place_of.new.files.items name c.in_ok-at.at c.index.result.now c.in_ok-at.ensures.found in
    let there : entry_at c.args.files.now.items name ≡ entry_of c.index.result.now.file
    = sym (c.in_ok-at.ensures.kept name) ∙ here ∙ ap (λ (f : NamedFile). entry_of f.file) (sym c.index.ensures) in (
      ap (λ (o : Outside). memory_state input o c.args.streams.now.items) (outside-same output c.args.files.now.items c.place_of.new.files.items c.in_ok-at.ensures.kept),
      ap (λ (e : Entry). e.opens) there ∙ c.if-not-index.true,
    )

pub returns-clause-opened : goal.returns-clause-opened
returns-clause-opened c = adds-kinds c.in_ok-id.ensures.ok

pub returns-clause-told : goal.returns-clause-told
returns-clause-told c = λ input output.
    let name = c.args.name.now in
    let old = c.args.files.now.items in
    let files = c.place_of.new.files.items in
    let g = c.index_mut-named.result.now in
    let written = set files c.in_ok-at.at (record { name = g.name; file = c.open_file.new.file }) in
    let was : entry_at old name ≡ entry_of g.file
    = sym (c.in_ok-at.ensures.kept name) ∙ entry_at-place files name c.in_ok-at.at g c.in_ok-at.ensures.found ∙ ap (λ (f : NamedFile). entry_of f.file) (sym c.index_mut-named.ensures.value) in
    let now : entry_of c.open_file.new.file ≡ opened c.args.append (entry_at old name) = c.open_file.ensures ∙ ap (opened c.args.append) (sym was) in
    let each : (other : List ℕ) → entry_at written other ≡ cond (pointwise ◌==◌ name other) (opened c.args.append (entry_at old name)) (entry_at old other)
    = λ other. entry_at-write files name c.in_ok-at.at g c.open_file.new.file c.in_ok-at.ensures.found c.index_mut-named.ensures.value other
    ∙ ap (cond (pointwise ◌==◌ name other) (entry_of c.open_file.new.file)) (c.in_ok-at.ensures.kept other)
    ∙ ap (λ (e : Entry). cond (pointwise ◌==◌ name other) e (entry_at old other)) now in
    let can_open : (entry_at old name).opens ≡ true
    = sym (ap (λ (e : Entry). e.opens) (c.in_ok-at.ensures.kept name)) ∙ ap (λ (e : Entry). e.opens) (entry_at-place files name c.in_ok-at.at c.index.result.now c.in_ok-at.ensures.found)
    ∙ ap (λ (f : NamedFile). f.file.opens) (sym c.index.ensures) ∙ c.if-not-index.false in
    opens-writer name c.in_ok-from_slice.field-0 c.args.append c.in_ok-id.id input (outside_of output old) (outside_of output written) c.args.streams.now.items c.add_stream.new.streams.items
    c.in_ok-from_slice.ensures can_open (outside-named output old written name (opened c.args.append (entry_at old name)) each) c.in_ok-id.ensures.ok
