use Rattle.std.proofs.Common.{◌∙◌, sym, ap, []}
use Rattle.host_streams.specs.declared.reader.Phase.TheVariants.{Open}
use Rattle.host_streams.specs.Readers.{unread}
use Rattle.host_streams.specs.OpenFiles.{reader_place}
use Rattle.host_streams.proofs.Opened.{is_missing, name_there}
use Rattle.host_streams.proofs.Held.{missing_named, none_failed, shown_missing}
use Rattle.host_streams.proofs.streams.Streams.file_next.Goals as goal

pub returns-in-None-clause-count : goal.returns-in-None-clause-count
returns-in-None-clause-count g c =
    let missing = ap (reader_place c.args.name.now) (sym c.as_slice.ensures.value) ∙ sym c.in-None.ensures in
    rw (shown_missing (λ r. r.phase) Open c.args.name.now c.args.self.now.readers.items missing) c.open_and_read.ensures.count

pub returns-in-None-clause-told : goal.returns-in-None-clause-told
returns-in-None-clause-told g c = λ tells.
    let missing = ap (reader_place c.args.name.now) (sym c.as_slice.ensures.value) ∙ sym c.in-None.ensures in
    rw (missing_named c.args.name.now (g.W.World.state c.args.world.now) c.args.self.now.readers.items missing, ← c.first_byte-separator.ensures) (c.open_and_read.ensures.told tells)

pub returns-in-None-clause-failing : goal.returns-in-None-clause-failing
returns-in-None-clause-failing g c = λ failed.
    let missing = ap (reader_place c.args.name.now) (sym c.as_slice.ensures.value) ∙ sym c.in-None.ensures in
    absurd (none_failed c.args.name.now c.args.self.now.readers.items missing failed)

pub returns-in-Some-clause-readers : goal.returns-in-Some-clause-readers
returns-in-Some-clause-readers g c =
    let found = ap (reader_place c.args.name.now) (sym c.as_slice.ensures.value) ∙ sym c.in-Some.ensures in
    rw (name_there c.args.name.now c.args.self.now.readers.items c.in-Some.at found) (c.next_at.ensures.limit, c.next_at.ensures.handles)

pub returns-in-None-clause-readers : goal.returns-in-None-clause-readers
returns-in-None-clause-readers g c =
    let missing = ap (reader_place c.args.name.now) (sym c.as_slice.ensures.value) ∙ sym c.in-None.ensures in
    rw (is_missing c.args.name.now c.args.self.now.readers.items missing) c.open_and_read.ensures.readers

pub returns-in-None-clause-breaks : goal.returns-in-None-clause-breaks
returns-in-None-clause-breaks g c = λ there.
    let missing = ap (reader_place c.args.name.now) (sym c.as_slice.ensures.value) ∙ sym c.in-None.ensures in
    rw (shown_missing (λ r. r.phase) Open c.args.name.now c.args.self.now.readers.items missing) (c.open_and_read.ensures.breaks there)

pub returns-in-None-clause-handed : goal.returns-in-None-clause-handed
returns-in-None-clause-handed g c = λ there.
    let missing = ap (reader_place c.args.name.now) (sym c.as_slice.ensures.value) ∙ sym c.in-None.ensures in
    rw (shown_missing (λ r. r.phase) Open c.args.name.now c.args.self.now.readers.items missing, shown_missing unread [] c.args.name.now c.args.self.now.readers.items missing, ← c.first_byte-separator.ensures) (c.open_and_read.ensures.handed there)
