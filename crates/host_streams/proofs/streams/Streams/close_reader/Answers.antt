use Rattle.std.proofs.Common.{◌∙◌, sym, ap}
use Rattle.host_streams.specs.OpenFiles.{reader_handle, reader_place, is_reader}
use Rattle.host_streams.proofs.Places.{all_fail}
use Rattle.host_streams.proofs.Closed.{beside_same, reader_kept, reader_was, shut_apart, shut_stays, in_same, names_fail, names_same, reader_apart, reader_go, reader_held, reader_names_left, reader_none, reader_open, reader_own, reader_there, reader_told}
use Rattle.host_streams.proofs.Given.{none_one, none_still}
use Rattle.host_streams.proofs.streams.Streams.close_reader.Goals as goal

pub close-requires-clause-open : goal.close-requires-clause-open
close-requires-clause-open g c =
    let found = ap (reader_place c.args.name.now) (sym c.as_slice.ensures.value) ∙ sym c.in-Some.ensures in
    λ shut. cc (sym (reader_open c.args.name.now c.args.self.now.readers.items c.args.self.now.writers.items c.in-Some.at found c.remove-closed.result c.remove-closed.ensures.value (g.W.World.kinds c.args.world.now) c.requires.held) ∙ shut)

pub close-requires-clause-own : goal.close-requires-clause-own
close-requires-clause-own g c =
    let found = ap (reader_place c.args.name.now) (sym c.as_slice.ensures.value) ∙ sym c.in-Some.ensures in
    reader_own c.args.name.now c.args.self.now.readers.items c.args.self.now.writers.items c.in-Some.at found c.remove-closed.result c.remove-closed.ensures.value (g.W.World.kinds c.args.world.now) c.requires.held

pub returns-in-Some-clause-held : goal.returns-in-Some-clause-held
returns-in-Some-clause-held g c =
    let found = ap (reader_place c.args.name.now) (sym c.as_slice.ensures.value) ∙ sym c.in-Some.ensures in
    rw (c.remove-closed.ensures.items, c.close.ensures.kinds) (reader_held c.args.name.now c.args.self.now.readers.items c.args.self.now.writers.items c.in-Some.at found c.remove-closed.result c.remove-closed.ensures.value (g.W.World.kinds c.args.world.now) c.requires.held)

pub returns-in-Some-clause-goes : goal.returns-in-Some-clause-goes
returns-in-Some-clause-goes g c = λ tells.
    let found = ap (reader_place c.args.name.now) (sym c.as_slice.ensures.value) ∙ sym c.in-Some.ensures in
    reader_go c.args.name.now c.args.self.now.readers.items c.args.self.now.writers.items c.in-Some.at found c.remove-closed.result c.remove-closed.ensures.value (g.W.World.kinds c.args.world.now) c.requires.held _ _ (c.close.ensures.told tells) (c.requires.goes tells)

pub returns-in-Some-clause-answer : goal.returns-in-Some-clause-answer
returns-in-Some-clause-answer g c =
    let found = ap (reader_place c.args.name.now) (sym c.as_slice.ensures.value) ∙ sym c.in-Some.ensures in
    sym (reader_there c.args.name.now c.args.self.now.readers.items c.args.self.now.writers.items c.in-Some.at found c.remove-closed.result c.remove-closed.ensures.value (g.W.World.kinds c.args.world.now) c.requires.held)

pub returns-in-Some-clause-names : goal.returns-in-Some-clause-names
returns-in-Some-clause-names g c =
    let found = ap (reader_place c.args.name.now) (sym c.as_slice.ensures.value) ∙ sym c.in-Some.ensures in
    rw c.remove-closed.ensures.items (reader_names_left c.args.name.now c.args.self.now.readers.items c.args.self.now.writers.items c.in-Some.at found c.remove-closed.result c.remove-closed.ensures.value (g.W.World.kinds c.args.world.now) c.requires.held)

pub returns-in-Some-clause-told : goal.returns-in-Some-clause-told
returns-in-Some-clause-told g c = λ tells.
    let found = ap (reader_place c.args.name.now) (sym c.as_slice.ensures.value) ∙ sym c.in-Some.ensures in
    rw c.remove-closed.ensures.items (reader_told c.args.name.now c.args.self.now.readers.items c.args.self.now.writers.items c.in-Some.at found c.remove-closed.result c.remove-closed.ensures.value (g.W.World.kinds c.args.world.now) c.requires.held _ _ (c.close.ensures.told tells))

pub returns-in-None-clause-answer : goal.returns-in-None-clause-answer
returns-in-None-clause-answer g c =
    let missing = ap (reader_place c.args.name.now) (sym c.as_slice.ensures.value) ∙ sym c.in-None.ensures in
    sym (names_fail reader_handle c.args.name.now c.args.self.now.readers.items (all_fail (is_reader c.args.name.now) c.args.self.now.readers.items missing))

pub returns-in-None-clause-names : goal.returns-in-None-clause-names
returns-in-None-clause-names g c =
    let missing = ap (reader_place c.args.name.now) (sym c.as_slice.ensures.value) ∙ sym c.in-None.ensures in
    names_same reader_handle c.args.name.now c.args.self.now.readers.items (all_fail (is_reader c.args.name.now) c.args.self.now.readers.items missing)

pub returns-in-None-clause-told : goal.returns-in-None-clause-told
returns-in-None-clause-told g c = λ tells.
    let missing = ap (reader_place c.args.name.now) (sym c.as_slice.ensures.value) ∙ sym c.in-None.ensures in
    in_same c.args.name.now (g.W.World.state c.args.world.now) (g.W.World.state c.args.world.now) c.args.self.now.readers.items (all_fail (is_reader c.args.name.now) c.args.self.now.readers.items missing)

pub returns-in-Some-clause-others : goal.returns-in-Some-clause-others
returns-in-Some-clause-others g c = λ k none was.
    let found = ap (reader_place c.args.name.now) (sym c.as_slice.ensures.value) ∙ sym c.in-Some.ensures in (
      rw c.close.ensures.kinds (shut_stays k c.remove-closed.result.reader.id (g.W.World.kinds c.args.world.now) (reader_apart c.args.name.now c.args.self.now.readers.items c.args.self.now.writers.items c.in-Some.at found c.remove-closed.result c.remove-closed.ensures.value (g.W.World.kinds c.args.world.now) c.requires.held k none.0)),
      (rw c.remove-closed.ensures.items (reader_none c.args.name.now c.args.self.now.readers.items c.args.self.now.writers.items c.in-Some.at found c.remove-closed.result c.remove-closed.ensures.value (g.W.World.kinds c.args.world.now) c.requires.held k none.0), none.1),
    )

pub returns-in-Some-clause-places : goal.returns-in-Some-clause-places
returns-in-Some-clause-places g c = λ tells k none was.
    let found = ap (reader_place c.args.name.now) (sym c.as_slice.ensures.value) ∙ sym c.in-Some.ensures in
    let apart = reader_apart c.args.name.now c.args.self.now.readers.items c.args.self.now.writers.items c.in-Some.at found c.remove-closed.result c.remove-closed.ensures.value (g.W.World.kinds c.args.world.now) c.requires.held k none.0 in (
      (c.close.ensures.told tells).others.readers k apart,
      (c.close.ensures.told tells).others.writers k apart,
    )

pub returns-in-Some-clause-kept : goal.returns-in-Some-clause-kept
returns-in-Some-clause-kept g c =
    let found = ap (reader_place c.args.name.now) (sym c.as_slice.ensures.value) ∙ sym c.in-Some.ensures in
    c.remove-closed.ensures.items ∙ reader_kept c.args.name.now c.args.self.now.readers.items c.args.self.now.writers.items c.in-Some.at found c.remove-closed.result c.remove-closed.ensures.value (g.W.World.kinds c.args.world.now) c.requires.held

pub returns-in-None-clause-kept : goal.returns-in-None-clause-kept
returns-in-None-clause-kept g c =
    let missing = ap (reader_place c.args.name.now) (sym c.as_slice.ensures.value) ∙ sym c.in-None.ensures in
    beside_same reader_handle c.args.name.now c.args.self.now.readers.items (all_fail (is_reader c.args.name.now) c.args.self.now.readers.items missing)

pub returns-in-Some-clause-no_others : goal.returns-in-Some-clause-no_others
returns-in-Some-clause-no_others g c = λ k none was.
    let found = ap (reader_place c.args.name.now) (sym c.as_slice.ensures.value) ∙ sym c.in-Some.ensures in
    let apart = shut_apart k c.remove-closed.result.reader.id (g.W.World.kinds c.args.world.now) (rw c.close.ensures.kinds at was) in (
      sym (rw c.close.ensures.kinds (shut_stays k c.remove-closed.result.reader.id (g.W.World.kinds c.args.world.now) apart)),
      (reader_was c.args.name.now c.args.self.now.readers.items c.args.self.now.writers.items c.in-Some.at found c.remove-closed.result c.remove-closed.ensures.value (g.W.World.kinds c.args.world.now) c.requires.held k apart (rw c.remove-closed.ensures.items at none.0), none.1),
    )

pub returns-in-Some-clause-gives : goal.returns-in-Some-clause-gives
returns-in-Some-clause-gives g c = none_one g.W.World.did _ _ c.close.ensures.did

pub returns-in-None-clause-gives : goal.returns-in-None-clause-gives
returns-in-None-clause-gives g c = none_still g.W.World.did c.args.world.now
