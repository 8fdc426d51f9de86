use Rattle.std.proofs.Common.{◌∙◌, sym, ap}
use Rattle.host_streams.specs.OpenFiles.{writer_handle, writer_place, is_writer}
use Rattle.host_streams.proofs.Places.{all_fail}
use Rattle.host_streams.proofs.Closed.{beside_same, writer_kept, writer_was, shut_apart, shut_stays, names_fail, names_same, readers_stay, writer_apart, writer_go, writer_held, writer_names_left, writer_none, writer_opened, writer_own, writer_there}
use Rattle.host_streams.proofs.Given.{none_one, none_still}
use Rattle.host_streams.proofs.streams.Streams.close_writer.Goals as goal

pub close-requires-clause-open : goal.close-requires-clause-open
close-requires-clause-open g c =
    let found = ap (writer_place c.args.name.now) (sym c.as_slice.ensures.value) ∙ sym c.in-Some.ensures in
    λ shut. cc (sym (writer_opened c.args.name.now c.args.self.now.readers.items c.args.self.now.writers.items c.in-Some.at found c.remove-closed.result c.remove-closed.ensures.value (g.W.World.kinds c.args.world.now) c.requires.held) ∙ shut)

pub close-requires-clause-own : goal.close-requires-clause-own
close-requires-clause-own g c =
    let found = ap (writer_place c.args.name.now) (sym c.as_slice.ensures.value) ∙ sym c.in-Some.ensures in
    writer_own c.args.name.now c.args.self.now.readers.items c.args.self.now.writers.items c.in-Some.at found c.remove-closed.result c.remove-closed.ensures.value (g.W.World.kinds c.args.world.now) c.requires.held

pub returns-in-Some-clause-held : goal.returns-in-Some-clause-held
returns-in-Some-clause-held g c =
    let found = ap (writer_place c.args.name.now) (sym c.as_slice.ensures.value) ∙ sym c.in-Some.ensures in
    rw (c.remove-closed.ensures.items, c.close.ensures.kinds) (writer_held c.args.name.now c.args.self.now.readers.items c.args.self.now.writers.items c.in-Some.at found c.remove-closed.result c.remove-closed.ensures.value (g.W.World.kinds c.args.world.now) c.requires.held)

pub returns-in-Some-clause-goes : goal.returns-in-Some-clause-goes
returns-in-Some-clause-goes g c = λ tells.
    let found = ap (writer_place c.args.name.now) (sym c.as_slice.ensures.value) ∙ sym c.in-Some.ensures in
    rw c.remove-closed.ensures.items (writer_go c.args.name.now c.args.self.now.readers.items c.args.self.now.writers.items c.in-Some.at found c.remove-closed.result c.remove-closed.ensures.value (g.W.World.kinds c.args.world.now) c.requires.held _ _ (c.close.ensures.told tells) (c.requires.goes tells))

pub returns-in-Some-clause-answer : goal.returns-in-Some-clause-answer
returns-in-Some-clause-answer g c =
    let found = ap (writer_place c.args.name.now) (sym c.as_slice.ensures.value) ∙ sym c.in-Some.ensures in
    sym (writer_there c.args.name.now c.args.self.now.readers.items c.args.self.now.writers.items c.in-Some.at found c.remove-closed.result c.remove-closed.ensures.value (g.W.World.kinds c.args.world.now) c.requires.held)

pub returns-in-Some-clause-names : goal.returns-in-Some-clause-names
returns-in-Some-clause-names g c =
    let found = ap (writer_place c.args.name.now) (sym c.as_slice.ensures.value) ∙ sym c.in-Some.ensures in
    rw c.remove-closed.ensures.items (writer_names_left c.args.name.now c.args.self.now.readers.items c.args.self.now.writers.items c.in-Some.at found c.remove-closed.result c.remove-closed.ensures.value (g.W.World.kinds c.args.world.now) c.requires.held)

pub returns-in-Some-clause-told : goal.returns-in-Some-clause-told
returns-in-Some-clause-told g c = λ tells.
    let found = ap (writer_place c.args.name.now) (sym c.as_slice.ensures.value) ∙ sym c.in-Some.ensures in
    readers_stay c.args.name.now c.args.self.now.readers.items c.args.self.now.writers.items c.in-Some.at found c.remove-closed.result c.remove-closed.ensures.value (g.W.World.kinds c.args.world.now) c.requires.held _ _ (c.close.ensures.told tells)

pub returns-in-None-clause-answer : goal.returns-in-None-clause-answer
returns-in-None-clause-answer g c =
    let missing = ap (writer_place c.args.name.now) (sym c.as_slice.ensures.value) ∙ sym c.in-None.ensures in
    sym (names_fail writer_handle c.args.name.now c.args.self.now.writers.items (all_fail (is_writer c.args.name.now) c.args.self.now.writers.items missing))

pub returns-in-None-clause-names : goal.returns-in-None-clause-names
returns-in-None-clause-names g c =
    let missing = ap (writer_place c.args.name.now) (sym c.as_slice.ensures.value) ∙ sym c.in-None.ensures in
    names_same writer_handle c.args.name.now c.args.self.now.writers.items (all_fail (is_writer c.args.name.now) c.args.self.now.writers.items missing)

pub returns-in-Some-clause-others : goal.returns-in-Some-clause-others
returns-in-Some-clause-others g c = λ k none was.
    let found = ap (writer_place c.args.name.now) (sym c.as_slice.ensures.value) ∙ sym c.in-Some.ensures in (
      rw c.close.ensures.kinds (shut_stays k c.remove-closed.result.id (g.W.World.kinds c.args.world.now) (writer_apart c.args.name.now c.args.self.now.readers.items c.args.self.now.writers.items c.in-Some.at found c.remove-closed.result c.remove-closed.ensures.value (g.W.World.kinds c.args.world.now) c.requires.held k none.1)),
      (none.0, rw c.remove-closed.ensures.items (writer_none c.args.name.now c.args.self.now.readers.items c.args.self.now.writers.items c.in-Some.at found c.remove-closed.result c.remove-closed.ensures.value (g.W.World.kinds c.args.world.now) c.requires.held k none.1)),
    )

pub returns-in-Some-clause-places : goal.returns-in-Some-clause-places
returns-in-Some-clause-places g c = λ tells k none was.
    let found = ap (writer_place c.args.name.now) (sym c.as_slice.ensures.value) ∙ sym c.in-Some.ensures in
    let apart = writer_apart c.args.name.now c.args.self.now.readers.items c.args.self.now.writers.items c.in-Some.at found c.remove-closed.result c.remove-closed.ensures.value (g.W.World.kinds c.args.world.now) c.requires.held k none.1 in (
      (c.close.ensures.told tells).others.readers k apart,
      (c.close.ensures.told tells).others.writers k apart,
    )

pub returns-in-Some-clause-kept : goal.returns-in-Some-clause-kept
returns-in-Some-clause-kept g c =
    let found = ap (writer_place c.args.name.now) (sym c.as_slice.ensures.value) ∙ sym c.in-Some.ensures in
    c.remove-closed.ensures.items ∙ writer_kept c.args.name.now c.args.self.now.readers.items c.args.self.now.writers.items c.in-Some.at found c.remove-closed.result c.remove-closed.ensures.value (g.W.World.kinds c.args.world.now) c.requires.held

pub returns-in-None-clause-kept : goal.returns-in-None-clause-kept
returns-in-None-clause-kept g c =
    let missing = ap (writer_place c.args.name.now) (sym c.as_slice.ensures.value) ∙ sym c.in-None.ensures in
    beside_same writer_handle c.args.name.now c.args.self.now.writers.items (all_fail (is_writer c.args.name.now) c.args.self.now.writers.items missing)

pub returns-in-Some-clause-no_others : goal.returns-in-Some-clause-no_others
returns-in-Some-clause-no_others g c = λ k none was.
    let found = ap (writer_place c.args.name.now) (sym c.as_slice.ensures.value) ∙ sym c.in-Some.ensures in
    let apart = shut_apart k c.remove-closed.result.id (g.W.World.kinds c.args.world.now) (rw c.close.ensures.kinds at was) in (
      sym (rw c.close.ensures.kinds (shut_stays k c.remove-closed.result.id (g.W.World.kinds c.args.world.now) apart)),
      (none.0, writer_was c.args.name.now c.args.self.now.readers.items c.args.self.now.writers.items c.in-Some.at found c.remove-closed.result c.remove-closed.ensures.value (g.W.World.kinds c.args.world.now) c.requires.held k apart (rw c.remove-closed.ensures.items at none.1)),
    )

pub returns-in-Some-clause-gives : goal.returns-in-Some-clause-gives
returns-in-Some-clause-gives g c = none_one g.W.World.did _ _ c.close.ensures.did

pub returns-in-None-clause-gives : goal.returns-in-None-clause-gives
returns-in-None-clause-gives g c = none_still g.W.World.did c.args.world.now
