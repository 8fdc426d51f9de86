use Rattle.std.proofs.Common.{ap, refl, subst, sym, []}
use Rattle.host_streams.specs.declared.streams.NamedReader.{NamedReader}
use Rattle.host_streams.specs.OpenFiles.{IsNone}
use Rattle.host_streams.specs.declared.reader.Phase.TheVariants.{Open}
use Rattle.host_streams.specs.Readers.{unread}
use Rattle.host_streams.proofs.Held.{handles_next, open_next, named_next, held_next, told_next, go_same, apart_next, none_next, shown_after, shown_next}
use Rattle.host_streams.proofs.Opened.{beside_next}
use Rattle.host_streams.proofs.streams.Streams.next_at.Goals as goal

pub next-requires : goal.next-requires
next-requires g c = record {
  reading = open_next c.args.name.now c.args.self.now.readers.items c.args.at c.requires.place c.index_mut-named.result.now c.index_mut-named.ensures.value (g.W.World.kinds c.args.world.now) c.requires.held.0;
}

pub returns-clause-held : goal.returns-clause-held
returns-clause-held g c = rw c.next.ensures.kinds (
  held_next c.args.name.now c.args.self.now.readers.items c.args.at c.requires.place c.index_mut-named.result.now c.index_mut-named.ensures.value (record { name = c.index_mut-named.result.now.name; reader = c.next.new.self }) (g.W.World.kinds c.args.world.now) refl c.next.ensures.id c.requires.held.0,
  c.requires.held.1,
)

pub returns-clause-count : goal.returns-clause-count
returns-clause-count g c =
    rw (shown_next c.args.name.now c.args.self.now.readers.items c.args.at c.requires.place c.index_mut-named.result.now c.index_mut-named.ensures.value (λ r. r.phase) Open) c.next.ensures.count

pub returns-clause-phase : goal.returns-clause-phase
returns-clause-phase g c =
    let named = c.index_mut-named.result.now in
    let other : NamedReader = record { name = named.name; reader = c.next.new.self } in
    rw (shown_next c.args.name.now c.args.self.now.readers.items c.args.at c.requires.place named c.index_mut-named.ensures.value (λ r. r.phase) Open, shown_after c.args.name.now c.args.self.now.readers.items c.args.at c.requires.place named c.index_mut-named.ensures.value other refl (λ r. r.phase) Open) c.next.ensures.phase

pub returns-clause-handed : goal.returns-clause-handed
returns-clause-handed g c =
    let named = c.index_mut-named.result.now in
    let other : NamedReader = record { name = named.name; reader = c.next.new.self } in
    rw (
      shown_next c.args.name.now c.args.self.now.readers.items c.args.at c.requires.place named c.index_mut-named.ensures.value (λ r. r.phase) Open,
      shown_next c.args.name.now c.args.self.now.readers.items c.args.at c.requires.place named c.index_mut-named.ensures.value unread [],
      shown_after c.args.name.now c.args.self.now.readers.items c.args.at c.requires.place named c.index_mut-named.ensures.value other refl (λ r. r.phase) Open,
      shown_after c.args.name.now c.args.self.now.readers.items c.args.at c.requires.place named c.index_mut-named.ensures.value other refl unread [],
    ) c.next.ensures.handed

pub returns-clause-goes : goal.returns-clause-goes
returns-clause-goes g c = λ tells. go_same c.args.self.now.writers.items _ _ (c.next.ensures.only tells).writers (c.requires.goes tells)

pub returns-clause-told : goal.returns-clause-told
returns-clause-told g c = λ tells. record {
  before = _;
  named = named_next c.args.name.now c.args.self.now.readers.items c.args.at c.requires.place c.index_mut-named.result.now c.index_mut-named.ensures.value (g.W.World.state c.args.world.now);
  later = _;
  answers = c.next.ensures.told tells;
  readers = told_next c.args.name.now c.args.self.now.readers.items c.args.at c.requires.place c.index_mut-named.result.now c.index_mut-named.ensures.value (record { name = c.index_mut-named.result.now.name; reader = c.next.new.self }) (g.W.World.kinds c.args.world.now) (g.W.World.state c.args.world.now) (g.W.World.state c.next.new.world) refl c.next.ensures.id c.requires.held.0 (c.next.ensures.only tells);
}

pub returns-clause-others : goal.returns-clause-others
returns-clause-others g c = λ k none was. (
  ap (λ f. f k) c.next.ensures.kinds,
  (none_next c.args.name.now c.args.self.now.readers.items c.args.at c.requires.place c.index_mut-named.result.now c.index_mut-named.ensures.value (record { name = c.index_mut-named.result.now.name; reader = c.next.new.self }) refl c.next.ensures.id k none.0, none.1),
)

pub returns-clause-places : goal.returns-clause-places
returns-clause-places g c = λ tells k none was. (
  (c.next.ensures.only tells).others k (apart_next c.args.name.now c.args.self.now.readers.items c.args.at c.requires.place c.index_mut-named.result.now c.index_mut-named.ensures.value k none.0),
  ap (λ f. f k) (c.next.ensures.only tells).writers,
)

pub returns-clause-handles : goal.returns-clause-handles
returns-clause-handles g c =
    handles_next c.args.name.now c.args.self.now.readers.items c.args.at c.requires.place c.index_mut-named.result.now c.index_mut-named.ensures.value (record { name = c.index_mut-named.result.now.name; reader = c.next.new.self }) refl c.next.ensures.id

pub returns-clause-kept : goal.returns-clause-kept
returns-clause-kept g c =
    beside_next c.args.name.now c.args.self.now.readers.items c.args.at c.requires.place c.index_mut-named.result.now (record { name = c.index_mut-named.result.now.name; reader = c.next.new.self }) c.index_mut-named.ensures.value refl

pub returns-clause-no_others : goal.returns-clause-no_others
returns-clause-no_others g c = λ k none was. (
  ap (λ f. f k) (sym c.next.ensures.kinds),
  (subst (IsNone k) (handles_next c.args.name.now c.args.self.now.readers.items c.args.at c.requires.place c.index_mut-named.result.now c.index_mut-named.ensures.value (record { name = c.index_mut-named.result.now.name; reader = c.next.new.self }) refl c.next.ensures.id) none.0, none.1),
)
